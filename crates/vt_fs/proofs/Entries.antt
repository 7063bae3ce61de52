-- The filesystems as the map keeps them, and as contracts see them.
use Rattle.std.proofs.Common.{◌≡◌, refl, sym, ap, ◌∙◌, ℕ, suc, Bool, true, false, T, cond, ◌||◌, ◌&&◌, nat_eq, nat_lt, eq-eqb, List, [], ◌∷◌, ◌++◌, map, filter, not, slice_get, Option, Some, None, option_map, unwrap_or, is_some, length, IsSome, eqb-true}
use Rattle.vt_spec.proofs.Common.{AllByRecursion, T_and_left, T_and_right, any_pair, holds_of, keys_of, list_all, list_any, lookup, values_of}
use Rattle.std.specs.List.{IsDistinct}
use Rattle.indexmap.specs.IndexMap.{IndexMap, WritesThrough, get_by, set_value_at}
use Rattle.vt_location.specs.declared.numbers.FilesystemId.{FilesystemId}
use Rattle.vt_location.specs.InOrder.{in_order_by}
use Rattle.vt_fs.specs.declared.filesystems.Filesystem.{Filesystem}
use Rattle.vt_fs.specs.FilesystemsValue.{FilesystemEntry, Filesystems, entries_in, entry_at, entry_of, held, held_entry, no_entry, with_changed, without}
use Rattle.vt_location.proofs.OrderLemmas.{IsChanged, apart-below, change_kept, changed-by, in_order-changed, in_order-last, in_order-removed, is_above, length-in_order, looked-in_order, rises, rises-in_order}
use Rattle.vt_spec.proofs.Truths.{nat_eq_turned}
pub use Rattle.vt_spec.proofs.Truths.{or_false_left}
pub use Rattle.vt_spec.proofs.Truths.{or_false_right}

-- the equality of numbers as the map compares them, and the test by which it finds one
abbrev pub key_eq : FilesystemId → FilesystemId → Bool
key_eq a b = nat_eq a.count b.count

abbrev pub is_key : ℕ → FilesystemId → Bool
is_key f id = nat_eq f id.count

abbrev pub count_of : FilesystemId → ℕ
count_of id = id.count

abbrev id_of : ℕ → FilesystemId
id_of f = record { count = f }

whole : (x y : FilesystemId) → x.count ≡ y.count → x ≡ y
whole x y is = ap (λ n. record { count = n }) is

-- what is kept, in the order of the counts
abbrev in_order : List (FilesystemId × Filesystem) → List (FilesystemId × Filesystem)
in_order es = in_order_by count_of es

-- an entry of this count
abbrev pub of_count : ℕ → Filesystem → FilesystemEntry
of_count f filesystem = record { count = f; tree = filesystem.tree; mounts = filesystem.mounts }

same : (a b : ℕ) → nat_eq a b ≡ true → b ≡ a
same a b e = sym (eqb-true a b e)

-- the first filesystem is found under its count
pub first_found : (id first : FilesystemId) (x : Filesystem) (es : List (FilesystemId × Filesystem))
    → Some (first, x) ≡ slice_get es 0 → key_eq first id ≡ true → Some x ≡ lookup (is_key id.count) es
first_found id first x [] at is = absurd cc
first_found id first x (e ∷ es) at is =
    let here : e ≡ (first, x) = cc in
    sym (ap (λ e. lookup (is_key id.count) (e ∷ es)) here ∙ ap (λ b. cond b (Some x) (lookup (is_key id.count) es))
    (eq-eqb id.count first.count (sym (eqb-true first.count id.count is))))

-- the first filesystem, where it is the one of a number, is what is found, and what is changed
pub first_is : (id : FilesystemId) (es : List (FilesystemId × Filesystem))
    → holds_of (λ e. nat_eq e.0.count id.count) (slice_get es 0) ≡ true
    → option_map (λ e. e.0) (slice_get es 0) ≡ Some id
first_is id [] same = absurd cc
first_is id (e ∷ es) same = ap Some (whole e.0 id (eqb-true e.0.count id.count same))

pub found_first : (id : FilesystemId) (x : Filesystem) (es : List (FilesystemId × Filesystem))
    → option_map (λ e. e.0) (slice_get es 0) ≡ Some id → Some x ≡ slice_get (values_of es) 0
    → Some x ≡ lookup (is_key id.count) es
found_first id x [] first at = absurd cc
found_first id x (e ∷ es) first at =
    let here : e.0 ≡ id = cc in
    at ∙ sym (ap (λ b. cond b (Some e.1) (lookup (is_key id.count) es))
    (eq-eqb id.count e.0.count (ap count_of (sym here))))

pub first_there : {C : Type 0} (id : FilesystemId) (es : List (FilesystemId × Filesystem))
    → option_map (λ e. e.0) (slice_get es 0) ≡ Some id → None ≡ slice_get (values_of es) 0 → C
first_there id [] first none = absurd cc
first_there id (e ∷ es) first none = absurd cc

set_first : (id : FilesystemId) (w : Filesystem) (es : List (FilesystemId × Filesystem))
    → option_map (λ e. e.0) (slice_get es 0) ≡ Some id → (q : FilesystemId)
    → lookup (key_eq q) (set_value_at es 0 w) ≡ cond (key_eq id q) (Some w) (lookup (key_eq q) es)
set_first id w [] first q = absurd cc
set_first id w (e ∷ es) first q =
    let here : e.0 ≡ id = cc in
    by (key_eq q e.0) (key_eq id q) (nat_eq_turned q.count e.0.count ∙ ap (λ id. key_eq id q) here)
  where
    by : (b c : Bool) → b ≡ c
        → cond b (Some w) (lookup (key_eq q) es) ≡ cond c (Some w) (cond b (Some e.1) (lookup (key_eq q) es))
    by true true is = refl
    by false false is = refl
    by true false is = absurd cc
    by false true is = absurd cc

module _ (f : ℕ) where
  -- a count finds the filesystem that it is the key of
  entry_of-entries : (es : List (FilesystemId × Filesystem))
      → entry_of (entries_in es) f ≡ option_map (of_count f) (lookup (is_key f) es)
  entry_of-entries [] = refl
  entry_of-entries (e ∷ es) = by (nat_eq f e.0.count) (same f e.0.count) (entry_of-entries es)
    where
      by : (b : Bool) → (b ≡ true → e.0.count ≡ f)
          → entry_of (entries_in es) f ≡ option_map (of_count f) (lookup (is_key f) es)
          → cond b (Some (held_entry e)) (entry_of (entries_in es) f)
          ≡ option_map (of_count f) (cond b (Some e.1) (lookup (is_key f) es))
      by true is rest = λ i. Some (of_count (is refl i) e.1)
      by false is rest = rest

  pub entry_of-held : (es : List (FilesystemId × Filesystem))
      → entry_of (held es) f ≡ option_map (of_count f) (lookup (is_key f) es)
  entry_of-held es = entry_of-entries (in_order es)
      ∙ ap (option_map (of_count f)) (looked-in_order count_of (id_of f) es)

  -- the filesystem of a count is changed
  entries-changed : (written : Filesystem → Filesystem) (change : FilesystemEntry → FilesystemEntry)
      → ((k : ℕ) (one : Filesystem) → of_count k (written one) ≡ change (of_count k one))
      → (kept : List (FilesystemId × Filesystem))
      → entries_in (map (change_kept count_of (id_of f) written) kept) ≡ with_changed f change (entries_in kept)
  entries-changed written change so [] = refl
  entries-changed written change so (e ∷ kept) =
      λ i. by (nat_eq f e.0.count) i ∷ entries-changed written change so kept i
    where
      by : (b : Bool) → of_count e.0.count (cond b (written e.1) e.1) ≡ cond b (change (held_entry e)) (held_entry e)
      by true = so e.0.count e.1
      by false = refl

  held-changed : (written : Filesystem → Filesystem) (change : FilesystemEntry → FilesystemEntry)
      (es new : List (FilesystemId × Filesystem))
      → ((k : ℕ) (one : Filesystem) → of_count k (written one) ≡ change (of_count k one))
      → IsChanged count_of (id_of f) written es new → held new ≡ with_changed f change (held es)
  held-changed written change es new so writes =
      ap entries_in (in_order-changed count_of whole (id_of f) written es new writes)
      ∙ entries-changed written change so (in_order es)

  -- where the count finds nothing, nothing is changed
  pub absent_changed : (change : FilesystemEntry → FilesystemEntry) (fs : Filesystems) → entry_of fs f ≡ None
      → with_changed f change fs ≡ fs
  absent_changed change [] absent = refl
  absent_changed change (e ∷ fs) absent = by (nat_eq f e.count) absent (absent_changed change fs)
    where
      by : (b : Bool) → cond b (Some e) (entry_of fs f) ≡ None → (entry_of fs f ≡ None → with_changed f change fs ≡ fs)
          → cond b (change e) e ∷ with_changed f change fs ≡ e ∷ fs
      by true found rest = absurd cc
      by false absent rest = ap (λ l. e ∷ l) (rest absent)

  -- the filesystem of a count is removed
  entries-without : (kept : List (FilesystemId × Filesystem))
      → entries_in (filter (λ one. not (nat_eq f one.0.count)) kept) ≡ without f (entries_in kept)
  entries-without [] = refl
  entries-without (e ∷ kept) = by (nat_eq f e.0.count) (entries-without kept)
    where
      by : (b : Bool) → entries_in (filter (λ one. not (nat_eq f one.0.count)) kept) ≡ without f (entries_in kept)
          → entries_in (cond (not b) (e ∷ filter (λ one. not (nat_eq f one.0.count)) kept)
          (filter (λ one. not (nat_eq f one.0.count)) kept))
          ≡ cond (not b) (held_entry e ∷ without f (entries_in kept)) (without f (entries_in kept))
      by true rest = rest
      by false rest = ap (λ l. held_entry e ∷ l) rest

  pub removed : (es new : List (FilesystemId × Filesystem))
      → ((q : FilesystemId) → lookup (key_eq q) new ≡ cond (nat_eq f q.count) None (lookup (key_eq q) es))
      → held new ≡ without f (held es)
  removed es new goes =
      ap entries_in (in_order-removed count_of whole (id_of f) es new goes) ∙ entries-without (in_order es)

-- no two have the same count
none_same : (k : ℕ) (es : List (FilesystemId × Filesystem)) → AllByRecursion (λ y. nat_eq k y.count ≡ false)
    (keys_of es)
    → list_any (λ (other : FilesystemEntry). nat_eq k other.count) (entries_in es) ≡ false
none_same k [] apart = refl
none_same k (e ∷ es) apart = λ i. apart.0 i || none_same k es apart.1 i

counts_apart : (kept : List (FilesystemId × Filesystem)) → T (rises count_of kept)
    → any_pair (λ (a b : FilesystemEntry). nat_eq a.count b.count) (entries_in kept) ≡ false
counts_apart [] rising = refl
counts_apart (e ∷ kept) rising = λ i. none_same e.0.count kept (apart-below count_of e.0 kept (T_and_left _ _ rising)) i
    || counts_apart kept (T_and_right _ _ rising) i

pub held_apart : (es : List (FilesystemId × Filesystem)) (fs : Filesystems) → held es ≡ fs
    → any_pair (λ (a b : FilesystemEntry). nat_eq a.count b.count) fs ≡ false
held_apart es fs view = ap (any_pair (λ (a b : FilesystemEntry). nat_eq a.count b.count)) (sym view)
    ∙ counts_apart (in_order es) (rises-in_order count_of es)

-- what the map has under a count is the tree of the filesystem of that count
pub tree_of-held : (f : ℕ) (es : List (FilesystemId × Filesystem)) (o : Option Filesystem) → o ≡ lookup (is_key f) es
    → option_map (λ (found : Filesystem). found.tree) o
    ≡ option_map (λ (entry : FilesystemEntry). entry.tree) (entry_of (held es) f)
tree_of-held f es o is = ap (option_map (λ (found : Filesystem). found.tree)) is ∙ both (lookup (is_key f) es)
    ∙ ap (option_map (λ (entry : FilesystemEntry). entry.tree)) (sym (entry_of-held f es))
  where
    both : (o : Option Filesystem) → option_map (λ (found : Filesystem). found.tree) o
        ≡ option_map (λ (entry : FilesystemEntry). entry.tree) (option_map (of_count f) o)
    both None = refl
    both (Some found) = refl

-- How many mounts show a filesystem

pub mounts_of-held : (f : ℕ) (es : List (FilesystemId × Filesystem)) (fs : Filesystems) (x : Filesystem) → held es ≡ fs
    → lookup (is_key f) es ≡ Some x → (entry_at fs f).mounts ≡ x.mounts
mounts_of-held f es fs x view found = ap (λ fs. (entry_at fs f).mounts) (sym view)
    ∙ ap (λ (o : Option FilesystemEntry). (unwrap_or o (no_entry f)).mounts)
    (entry_of-held f es ∙ ap (option_map (of_count f)) found)

-- what was written to the filesystem of a count, and what is written to none
pub writes : {S : Type 0} (f : ℕ) (written : Filesystem → Filesystem) (change : FilesystemEntry → FilesystemEntry)
    (m n : IndexMap FilesystemId Filesystem S) (fs : Filesystems) (x w : Filesystem) → held m.entries ≡ fs
    → get_by (is_key f) m ≡ Some x → w ≡ written x
    → ((k : ℕ) (one : Filesystem) → of_count k (written one) ≡ change (of_count k one))
    → WritesThrough key_eq (is_key f) m w n → held n.entries ≡ with_changed f change fs
writes f written change m n fs x w view there is so through = held-changed f written change m.entries n.entries so
    (changed-by count_of whole (id_of f) written m.entries n.entries x w there is (through.3 some).0)
    ∙ ap (with_changed f change) view
  where
    some : IsSome (get_by (is_key f) m)
    some = ap is_some there

pub writes_first : (id : FilesystemId) (written : Filesystem → Filesystem) (change : FilesystemEntry → FilesystemEntry)
    (es new : List (FilesystemId × Filesystem)) (fs : Filesystems) (x w : Filesystem) → held es ≡ fs
    → option_map (λ e. e.0) (slice_get es 0) ≡ Some id → Some x ≡ slice_get (values_of es) 0 → w ≡ written x
    → ((k : ℕ) (one : Filesystem) → of_count k (written one) ≡ change (of_count k one))
    → new ≡ set_value_at es 0 w → held new ≡ with_changed id.count change fs
writes_first id written change es new fs x w view first at is so sets =
    held-changed id.count written change es new so
    (changed-by count_of whole id written es new x w (sym (found_first id x es first at)) is
    (λ q. ap (lookup (key_eq q)) sets ∙ set_first id w es first q))
    ∙ ap (with_changed id.count change) view

pub writes_none : (f : ℕ) (change : FilesystemEntry → FilesystemEntry) (es new : List (FilesystemId × Filesystem))
    (fs : Filesystems) → held es ≡ fs → lookup (is_key f) es ≡ None → new ≡ es → held new ≡ with_changed f change fs
writes_none f change es new fs view absent is = ap held is ∙ view ∙ sym (absent_changed f change fs
    (ap (λ fs. entry_of fs f) (sym view) ∙ entry_of-held f es ∙ ap (option_map (of_count f)) absent))

-- A new filesystem

entries_behind : (e : FilesystemId × Filesystem) (kept : List (FilesystemId × Filesystem))
    → entries_in (kept ++ e ∷ []) ≡ entries_in kept ++ held_entry e ∷ []
entries_behind e [] = refl
entries_behind e (first ∷ kept) = ap (λ l. held_entry first ∷ l) (entries_behind e kept)

above_entries : (k : FilesystemId) (kept : List (FilesystemId × Filesystem))
    → list_all (λ (entry : FilesystemEntry). nat_lt entry.count k.count) (entries_in kept) ≡ is_above count_of k kept
above_entries k [] = refl
above_entries k (e ∷ kept) = ap (λ b. nat_lt e.0.count k.count && b) (above_entries k kept)

pub added : (es new : List (FilesystemId × Filesystem)) (fs : Filesystems) (k : FilesystemId) (x : Filesystem) → held
    es ≡ fs
    → list_all (λ (entry : FilesystemEntry). nat_lt entry.count k.count) fs ≡ true
    → ((q : FilesystemId) → lookup (key_eq q) new ≡ cond (key_eq k q) (Some x) (lookup (key_eq q) es))
    → held new ≡ fs ++ held_entry (k, x) ∷ []
added es new fs k x view above comes = ap entries_in (in_order-last count_of whole k x es new last comes)
    ∙ entries_behind (k, x) (in_order es) ∙ ap (λ l. l ++ held_entry (k, x) ∷ []) view
  where
    last : is_above count_of k (in_order es) ≡ true
    last = sym (above_entries k (in_order es))
        ∙ ap (list_all (λ (entry : FilesystemEntry). nat_lt entry.count k.count)) view ∙ above

-- As many as are kept

length_entries : (kept : List (FilesystemId × Filesystem)) → length (entries_in kept) ≡ length kept
length_entries [] = refl
length_entries (e ∷ kept) = ap suc (length_entries kept)

pub held_length : (es : List (FilesystemId × Filesystem)) (fs : Filesystems) → held es ≡ fs → IsDistinct key_eq
    (keys_of es)
    → length es ≡ length fs
held_length es fs view distinct =
    sym (length-in_order count_of es distinct) ∙ sym (length_entries (in_order es)) ∙ ap length view
