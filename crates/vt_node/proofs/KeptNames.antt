-- The names of the entries that an index map keeps, in another order than that of the entries that contracts see.
use Rattle.std.proofs.Common.{◌≡◌, ◌∙◌, ◌∷◌, [], List, None, Option, Ordering, Some, ap, cond, is_some, map, true≢false, ℕ, Less, Equal, Greater, IsPermutation, is_eq}
use Rattle.vt_spec.proofs.Common.{Entries, IsPermutation-cons, IsPermutation-middle, IsPermutation-refl, IsPermutation-trans, by_order, entry_named, keys_of, name_cmp, with_entry}
use Rattle.std.specs.declared.vec.Vec.{Vec}
use Rattle.std.specs.List.{IsDistinct}
use Rattle.vt_node.specs.Listed.{listed}
use Rattle.vt_node.proofs.ListedLemmas.{find-listed, key_eq}
use Rattle.vt_node.proofs.RankLemmas.{absent}

abbrev names_of : Entries ℕ → List (List ℕ)
names_of entries = map (λ entry. entry.0) entries

-- a new entry has a name more
names-with_entry : (name : List ℕ) (id : ℕ) (entries : Entries ℕ) → entry_named name entries ≡ None
    → IsPermutation (name ∷ names_of entries) (names_of (with_entry name id entries))
names-with_entry name id [] none = IsPermutation-refl (name ∷ [])
names-with_entry name id (entry ∷ entries) none = by (name_cmp name entry.0) none (names-with_entry name id entries)
  where
    by : (o : Ordering) → cond (is_eq o) (Some entry.1) (entry_named name entries) ≡ None
        → (entry_named name entries ≡ None
        → IsPermutation (name ∷ names_of entries) (names_of (with_entry name id entries)))
        → IsPermutation (name ∷ names_of (entry ∷ entries))
        (names_of (by_order o ((name, id) ∷ entry ∷ entries) ((entry.0, id) ∷ entries)
        (entry ∷ with_entry name id entries)))
    by Less none rest = IsPermutation-refl (name ∷ names_of (entry ∷ entries))
    by Equal none rest = cc
    by Greater none rest = IsPermutation-trans (name ∷ names_of (entry ∷ entries)) (entry.0 ∷ name ∷ names_of entries) _
        (IsPermutation-middle (name ∷ []) entry.0 (names_of entries))
        (IsPermutation-cons entry.0 (name ∷ names_of entries) (names_of (with_entry name id entries)) (rest none))

pub names-listed : {A : Type 0} (es : List (Vec ℕ A × ℕ)) → IsDistinct key_eq (keys_of es)
    → IsPermutation (map (λ key. key.items) (keys_of es)) (map (λ entry. entry.0) (listed es))
unfolding IsDistinct
names-listed [] distinct = IsPermutation-refl []
names-listed (e ∷ es) distinct =
    IsPermutation-trans (e.0.items ∷ map (λ key. key.items) (keys_of es)) (e.0.items ∷ names_of (listed es)) _
    (IsPermutation-cons e.0.items _ _ (names-listed es distinct.1))
    (names-with_entry e.0.items e.1 (listed es) (find-listed e.0.items es ∙ absent e.0.items es distinct.0))
