-- The entries that an index map keeps in some order, and the entries that contracts see, in the order of their names.
use Rattle.std.proofs.Common.{◌≡◌, ◌≢◌, ℕ, Bool, true, false, cond, not, T, List, [], ◌∷◌, nat_eq, Option, None, Some, refl, sym, ap, ◌∙◌, Less, Equal, Greater, bytes_eq}
use Rattle.vt_spec.proofs.Common.{Entries, by_order, eq_by_cmp, find-put, find-where_key, is_sorted, is_sorted-put, is_sorted-where_key, lookup, name_cmp, nat_list_eq_equiv, pointwise, same_entries, same_name-Equal, texts_ties, with_entry, without_entry}
use Rattle.std.specs.declared.vec.Vec.{Vec}
use Rattle.std.proofs.lemmas.Cmp.{nat_list_cmp_total}
use Rattle.std.specs.Map.{KeepsOthers}
use Rattle.std.specs.FinMap.Entries.{find}
use Rattle.vt_node.specs.Listed.{listed}
use Rattle.vt_spec.proofs.Truths.{Equal_from_is_eq, cond-not}

-- an entry more is an entry
with_entry-some : (name : List ℕ) (id : ℕ) (es : Entries ℕ) → with_entry name id es ≢ []
with_entry-some name id [] = λ none. cc
with_entry-some name id (e ∷ es) = elim (name_cmp name e.0)
    as (λ o. by_order o ((name, id) ∷ e ∷ es) ((e.0, id) ∷ es) (e ∷ with_entry name id es) ≢ [])
    [ Less ↦ λ none. cc | Equal ↦ λ none. cc | Greater ↦ λ none. cc ]

module _ {A : Type 0} where
  -- whether a key has these bytes
  abbrev pub is_name : List ℕ → Vec ℕ A → Bool
  is_name name key = pointwise nat_eq name key.items

  abbrev pub key_eq : Vec ℕ A → Vec ℕ A → Bool
  key_eq x y = is_name x.items y

  pub is_sorted-listed : (es : List (Vec ℕ A × ℕ)) → T (is_sorted name_cmp (listed es))
  is_sorted-listed [] = tt
  is_sorted-listed (e ∷ es) = is_sorted-put name_cmp nat_list_cmp_total e.0.items e.1 (listed es) (is_sorted-listed es)

  -- no entries are kept where none are listed
  pub none-listed : (es : List (Vec ℕ A × ℕ)) → listed es ≡ [] → es ≡ []
  none-listed [] none = refl
  none-listed (e ∷ es) none = absurd (with_entry-some e.0.items e.1 (listed es) none)

  -- a name is found by its bytes
  pub find-listed : (name : List ℕ) (es : List (Vec ℕ A × ℕ))
      → find name_cmp name (listed es) ≡ lookup (is_name name) es
  find-listed name [] = refl
  find-listed name (e ∷ es) = find-put name_cmp nat_list_cmp_total name e.0.items e.1 (listed es)
      ∙ (λ i. cond (sym (texts_ties name e.0.items) i) (Some e.1) (find-listed name es i))

  -- a map in which one name leads to something else
  module _ (old new : List (Vec ℕ A × ℕ)) (name : List ℕ) (value : Option ℕ) where
    found_after : lookup (is_name name) new ≡ value → KeepsOthers key_eq (is_name name) old new
        → (q : List ℕ) → find name_cmp q (listed new)
        ≡ cond (eq_by_cmp name_cmp q name) value (find name_cmp q (listed old))
    unfolding KeepsOthers
    found_after here others q = find-listed q new ∙ by (eq_by_cmp name_cmp q name) refl
      where
        by : (b : Bool) → eq_by_cmp name_cmp q name ≡ b
            → lookup (is_name q) new ≡ cond b value (find name_cmp q (listed old))
        by true e = ap (λ w. lookup (is_name w) new) (same_name-Equal q name (Equal_from_is_eq _ e)) ∙ here
        by false e = others (is_name q) (λ x y at. nat_list_eq_equiv.congr q x.items y.items at) (λ k at.
            sym (ap (pointwise nat_eq q)
            (same_name-Equal name k.items (Equal_from_is_eq _ (sym (texts_ties name k.items) ∙ at))))
            ∙ texts_ties q name ∙ e) ∙ sym (find-listed q old)

  pub listed-insert : (old new : List (Vec ℕ A × ℕ)) (name : List ℕ) (id : ℕ)
      → lookup (is_name name) new ≡ Some id → KeepsOthers key_eq (is_name name) old new
      → listed new ≡ with_entry name id (listed old)
  listed-insert old new name id here others =
      same_entries name_cmp nat_list_cmp_total same_name-Equal (listed new) (with_entry name id (listed old))
      (is_sorted-listed new) (is_sorted-put name_cmp nat_list_cmp_total name id (listed old) (is_sorted-listed old))
      (λ q. found_after old new name (Some id) here others q
      ∙ sym (find-put name_cmp nat_list_cmp_total q name id (listed old)))

  pub listed-remove : (old new : List (Vec ℕ A × ℕ)) (name : List ℕ)
      → lookup (is_name name) new ≡ None → KeepsOthers key_eq (is_name name) old new
      → listed new ≡ without_entry name (listed old)
  listed-remove old new name here others =
      same_entries name_cmp nat_list_cmp_total same_name-Equal (listed new) (without_entry name (listed old))
      (is_sorted-listed new) (is_sorted-where_key name_cmp other (listed old) (is_sorted-listed old))
      (λ q. found_after old new name None here others q
      ∙ ap (λ b. cond b None (find name_cmp q (listed old))) (sym (texts_ties q name))
      ∙ cond-not (bytes_eq q name) None (find name_cmp q (listed old))
      ∙ sym (find-where_key name_cmp other q (λ x tie. ap other (sym (same_name-Equal q x tie))) (listed old)))
    where
      other : List ℕ → Bool
      other x = not (bytes_eq x name)
