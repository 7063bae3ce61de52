-- The names of a map's keys, sorted, are the names of its entries.
use Rattle.std.proofs.Common.{◌≡◌, ℕ, ◌+◌, Bool, true, false, cond, ◌&&◌, ◌||◌, T, List, [], ◌∷◌, map, get_or, nat_eq, Option, None, Some, is_some, Ordering, refl, sym, ap, subst, ◌∙◌, true≢false, arith, Less, Equal, Greater, is_lt, is_eq, nat_cmp, IsPermutation, IsSorted}
use Rattle.vt_spec.proofs.Common.{AllByRecursion, Entries, IsPermutation-map, IsTotalOrder, T_and, below_all, eq_by_cmp, is_some-find, is_sorted, keys_of, list_any, list_any-IsPermutation, lookup, name_cmp, nat_list_eq_equiv, pointwise, same_entries, same_name-Equal, sorted_head, sorted_tail, texts_ties}
use Rattle.std.specs.declared.vec.Vec.{Vec}
use Rattle.std.specs.Ordering.{ordering_reverse}
use Rattle.std.specs.Cmp.Lexicographic.{slice_cmp}
use Rattle.std.proofs.lemmas.Cmp.{nat_list_cmp_total}
use Rattle.std.specs.List.{IsDistinct}
use Rattle.std.specs.List.Sorted.{IsStrictlySortedBy}
use Rattle.std.specs.FinMap.Entries.{find}
use Rattle.std.proofs.lemmas.Map.Keys.{IsDistinct-IsPermutation, apart_from_distinct, sorted_from_all_adjacent}
use Rattle.vt_node.specs.Listed.{listed}
use Rattle.vt_node.proofs.ListedLemmas.{find-listed, is_name, is_sorted-listed, key_eq}

-- what is neither greater nor equal is less
is_less : (r s : Ordering) → r ≡ ordering_reverse s → is_lt s ≡ false → is_eq r ≡ false → r ≡ Less
is_less Less s e not_less not_equal = refl
is_less Equal s e not_less not_equal = absurd (true≢false not_equal)
is_less Greater Less e not_less not_equal = absurd (true≢false not_less)
is_less Greater Equal e not_less not_equal = cc
is_less Greater Greater e not_less not_equal = cc

-- an option that holds nothing but its being there
same_presence : (o p : Option (Unit {0})) → is_some o ≡ is_some p → o ≡ p
same_presence None None e = refl
same_presence None (Some y) e = absurd (true≢false (sym e))
same_presence (Some x) None e = absurd (true≢false e)
same_presence (Some x) (Some y) e = refl

-- the names alone, as entries
abbrev marked : List (List ℕ) → List (List ℕ × Unit {0})
marked names = map (λ name. (name, tt)) names

names-marked : (names : List (List ℕ)) → map (λ e. e.0) (marked names) ≡ names
names-marked [] = refl
names-marked (name ∷ names) = ap (λ rest. name ∷ rest) (names-marked names)

-- two lists in order with the same names are one
same_names : (xs ys : List (List ℕ)) → T (is_sorted name_cmp (marked xs)) → T (is_sorted name_cmp (marked ys))
    → ((q : List ℕ) → list_any (eq_by_cmp name_cmp q) xs ≡ list_any (eq_by_cmp name_cmp q) ys) → xs ≡ ys
same_names xs ys p q alike = sym (names-marked xs) ∙ ap (map (λ e. e.0))
    (same_entries name_cmp nat_list_cmp_total same_name-Equal (marked xs) (marked ys) p q
    (λ name. same_presence _ _ (found name))) ∙ names-marked ys
  where
    among : (name : List ℕ) (names : List (List ℕ))
        → is_some (find name_cmp name (marked names)) ≡ list_any (eq_by_cmp name_cmp name) names
    among name names =
        is_some-find name_cmp name (marked names) ∙ ap (list_any (eq_by_cmp name_cmp name)) (names-marked names)

    found : (name : List ℕ) → is_some (find name_cmp name (marked xs)) ≡ is_some (find name_cmp name (marked ys))
    found name = among name xs ∙ alike name ∙ sym (among name ys)

-- the order of entries is that of their names
below_all-marked : (x : List ℕ) (es : Entries ℕ)
    → below_all name_cmp x (marked (map (λ e. e.0) es)) ≡ below_all name_cmp x es
below_all-marked x [] = refl
below_all-marked x (e ∷ es) = ap (λ b. is_lt (name_cmp x e.0) && b) (below_all-marked x es)

is_sorted-marked : (es : Entries ℕ) → is_sorted name_cmp (marked (map (λ e. e.0) es)) ≡ is_sorted name_cmp es
is_sorted-marked [] = refl
is_sorted-marked (e ∷ es) = λ i. below_all-marked e.0 es i && is_sorted-marked es i

module _ {A : Type 0} where
  abbrev key_cmp : Vec ℕ A → Vec ℕ A → Ordering
  key_cmp x y = slice_cmp nat_cmp x.items y.items

  key_cmp_total : IsTotalOrder key_cmp
  key_cmp_total = record {
    antisymm = λ x y. nat_list_cmp_total.antisymm x.items y.items;
    trans = λ x y z. nat_list_cmp_total.trans x.items y.items z.items;
    congr = λ x y z. nat_list_cmp_total.congr x.items y.items z.items;
  }

  abbrev bytes_of : List (Vec ℕ A) → List (List ℕ)
  bytes_of keys = map (λ key. key.items) keys

  -- keys differ where their bytes do
  all_differ : (x : Vec ℕ A) (keys : List (Vec ℕ A))
      → AllByRecursion (λ y. pointwise nat_eq x.items y ≡ false) (bytes_of keys)
      ≡ AllByRecursion (λ y. key_eq x y ≡ false) keys
  all_differ x [] = refl
  all_differ x (key ∷ keys) = ap (λ rest. (key_eq x key ≡ false) × rest) (all_differ x keys)

  IsDistinct-bytes_of : (keys : List (Vec ℕ A)) → IsDistinct (pointwise nat_eq) (bytes_of keys) ≡ IsDistinct key_eq keys
  unfolding IsDistinct
  IsDistinct-bytes_of [] = refl
  IsDistinct-bytes_of (key ∷ keys) = λ i. all_differ key keys i × IsDistinct-bytes_of keys i

  -- sorted keys that differ rise strictly
  strictly_sorted : (keys : List (Vec ℕ A)) → IsSorted key_cmp keys → IsDistinct key_eq keys
      → IsStrictlySortedBy key_cmp keys
  unfolding IsStrictlySortedBy
  strictly_sorted [] sorted distinct = tt
  strictly_sorted (key ∷ keys) sorted distinct = sorted_from_all_adjacent key_cmp_total (key ∷ keys) key (λ k within.
      let here = get_or (key ∷ keys) k key in
      let next = get_or (key ∷ keys) (k + 1) key in
      is_less _ _ (key_cmp_total.antisymm here next) (sorted k key (omega arith) within)
      (sym (texts_ties here.items next.items)
      ∙ apart_from_distinct key_eq (key ∷ keys) k (k + 1) key distinct (omega arith) within))

  below_all-bytes_of : (x : Vec ℕ A) (keys : List (Vec ℕ A)) → AllByRecursion (λ y. key_cmp x y ≡ Less) keys
      → T (below_all name_cmp x.items (marked (bytes_of keys)))
  below_all-bytes_of x [] h = tt
  below_all-bytes_of x (key ∷ keys) h =
      T_and _ _ (subst (λ r. T (is_lt r)) (sym h.0) tt) (below_all-bytes_of x keys h.1)

  is_sorted-bytes_of : (keys : List (Vec ℕ A)) → IsStrictlySortedBy key_cmp keys
      → T (is_sorted name_cmp (marked (bytes_of keys)))
  is_sorted-bytes_of [] h = tt
  is_sorted-bytes_of (key ∷ keys) h = T_and _ _ (below_all-bytes_of key keys (sorted_head key_cmp key keys h))
      (is_sorted-bytes_of keys (sorted_tail key_cmp key keys h))

  -- a look-up finds the names of the keys
  list_any-bytes_of : (q : List ℕ) (es : List (Vec ℕ A × ℕ))
      → list_any (eq_by_cmp name_cmp q) (bytes_of (keys_of es)) ≡ is_some (lookup (is_name q) es)
  list_any-bytes_of q [] = refl
  list_any-bytes_of q (e ∷ es) = (λ i. sym (texts_ties q e.0.items) i || list_any-bytes_of q es i)
      ∙ found (is_name q e.0) e.1 (lookup (is_name q) es)
    where
      found : (b : Bool) (id : ℕ) (rest : Option ℕ) → (b || is_some rest) ≡ is_some (cond b (Some id) rest)
      found true id rest = refl
      found false id rest = refl

  -- copies of the keys' names, sorted, are the names of the entries in their order
  pub sorted_names : (es : List (Vec ℕ A × ℕ)) (copies sorted : List (Vec ℕ A))
      → bytes_of copies ≡ bytes_of (keys_of es)
      → IsPermutation copies sorted → IsSorted key_cmp sorted → IsDistinct key_eq (keys_of es)
      → bytes_of sorted ≡ map (λ e. e.0) (listed es)
  sorted_names es copies sorted copied permuted in_order distinct =
      same_names (bytes_of sorted) (map (λ e. e.0) (listed es))
      (is_sorted-bytes_of sorted (strictly_sorted sorted in_order apart))
      (subst T (sym (is_sorted-marked (listed es))) (is_sorted-listed es))
      (λ q. sym (list_any-IsPermutation (eq_by_cmp name_cmp q) (bytes_of (keys_of es)) (bytes_of sorted) moved)
      ∙ list_any-bytes_of q es ∙ ap is_some (sym (find-listed q es)) ∙ is_some-find name_cmp q (listed es))
    where
      moved : IsPermutation (bytes_of (keys_of es)) (bytes_of sorted)
      moved = subst (λ names. IsPermutation names (bytes_of sorted)) copied
          (IsPermutation-map (λ key. key.items) copies sorted permuted)

      apart : IsDistinct key_eq sorted
      apart = subst (λ (X : Type 0). X) (IsDistinct-bytes_of sorted)
          (IsDistinct-IsPermutation (pointwise nat_eq) nat_list_eq_equiv.symm
          (bytes_of (keys_of es)) (bytes_of sorted) moved
          (subst (λ (X : Type 0). X) (sym (IsDistinct-bytes_of (keys_of es))) distinct))
