-- What is kept by hash under numbers, in their order, in whatever order it is kept.
use Rattle.std.proofs.Common.{◌≡◌, ◌<◌, suc, ◌+◌, ℕ, Bool, true, false, cond, ◌&&◌, T, List, [], ◌∷◌, ◌++◌, map, filter, length, not, nat_eq, nat_lt, Option, None, Some, is_some, option_map, refl, sym, ap, subst, ◌∙◌, arith, eq-eqb, ne_eqb, is_eq, is_lt, Ordering, Less, Equal, Greater, eqb-true, ltb-true}
use Rattle.vt_spec.proofs.Common.{AllByRecursion, IsDistinct-head, IsDistinct-tail, IsTotalOrder, T_and, T_and_left, T_and_right, and_true_left, and_true_right, below_all, eq_by_cmp, eqb-false, find-put, find-where_key, is_sorted, is_sorted-put, is_sorted-where_key, keys_of, list_all, lookup, nat_cmp-IsAntisymmetric, nat_cmp_is, nat_cmp_total, same_entries}
use Rattle.std.specs.Cmp.{unsigned_tied}
use Rattle.std.specs.FinMap.Entries.{find, find-append, length-put}
use Rattle.std.specs.List.{IsDistinct}
use Rattle.vt_location.specs.InOrder.{cmp_by, in_order_by}
use Rattle.vt_spec.proofs.Truths.{cond-not}

module _ {K : Type 0} (count : K → ℕ) where
  -- two keys have one count
  abbrev pub same_by : K → K → Bool
  same_by a b = nat_eq (count a) (count b)

  pub cmp_total : IsTotalOrder (cmp_by count)
  cmp_total = record {
    antisymm = λ x y. nat_cmp_total.antisymm (count x) (count y);
    trans = λ x y z. nat_cmp_total.trans (count x) (count y) (count z);
    congr = λ x y z. nat_cmp_total.congr (count x) (count y) (count z);
  }

  pub tied : (x y : K) → eq_by_cmp (cmp_by count) x y ≡ same_by x y
  tied x y = unsigned_tied (count x) (count y)

less_apart : (o : Ordering) → T (is_lt o) → is_eq o ≡ false
less_apart Less less = refl
less_apart Equal less = absurd less
less_apart Greater less = absurd less

module _ {K V : Type 0} (count : K → ℕ) where
  -- the keys rise
  abbrev pub rises : List (K × V) → Bool
  rises kept = is_sorted (cmp_by count) kept

  abbrev pub found : K → List (K × V) → Option V
  found q kept = find (cmp_by count) q kept

  pub rises-in_order : (es : List (K × V)) → T (rises (in_order_by count es))
  rises-in_order [] = tt
  rises-in_order (e ∷ es) =
      is_sorted-put (cmp_by count) (cmp_total count) e.0 e.1 (in_order_by count es) (rises-in_order es)

  pub found-in_order : (q : K) (es : List (K × V)) → found q (in_order_by count es) ≡ lookup (same_by count q) es
  found-in_order q [] = refl
  found-in_order q (e ∷ es) = find-put (cmp_by count) (cmp_total count) q e.0 e.1 (in_order_by count es)
      ∙ (λ i. cond (tied count q e.0 i) (Some e.1) (found-in_order q es i))

  pub found-looked : (q : K) (kept : List (K × V)) → found q kept ≡ lookup (same_by count q) kept
  found-looked q [] = refl
  found-looked q (e ∷ kept) = λ i. cond (tied count q e.0 i) (Some e.1) (found-looked q kept i)

  -- a look-up does not depend on the order
  pub looked-in_order : (q : K) (es : List (K × V))
      → lookup (same_by count q) (in_order_by count es) ≡ lookup (same_by count q) es
  looked-in_order q es = sym (found-looked q (in_order_by count es)) ∙ found-in_order q es

  -- a key that is below all others is none of them
  pub apart-below : (x : K) (kept : List (K × V)) → T (below_all (cmp_by count) x kept)
      → AllByRecursion (λ y. same_by count x y ≡ false) (keys_of kept)
  apart-below x [] below = tt
  apart-below x (e ∷ kept) below = (
    sym (tied count x e.0) ∙ less_apart (cmp_by count x e.0) (T_and_left _ _ below),
    apart-below x kept (T_and_right _ _ below),
  )

-- One that is changed

module _ {K V : Type 0} (count : K → ℕ) where
  abbrev pub change_kept : K → (V → V) → K × V → K × V
  change_kept number change one = (one.0, cond (same_by count number one.0) (change one.1) one.1)

  -- what is kept, in which the one of a number is changed by a function, if it is there
  abbrev pub IsChanged : K → (V → V) → List (K × V) → List (K × V) → Type 0
  IsChanged number change es new = (q : K) → lookup (same_by count q) new
      ≡ cond (same_by count number q) (option_map change (lookup (same_by count q) es)) (lookup (same_by count q) es)

  below-changed : (number : K) (change : V → V) (x : K) (kept : List (K × V))
      → below_all (cmp_by count) x (map (change_kept number change) kept) ≡ below_all (cmp_by count) x kept
  below-changed number change x [] = refl
  below-changed number change x (one ∷ kept) =
      ap (λ b. is_lt (cmp_by count x one.0) && b) (below-changed number change x kept)

  rises-changed : (number : K) (change : V → V) (kept : List (K × V))
      → rises count (map (change_kept number change) kept) ≡ rises count kept
  rises-changed number change [] = refl
  rises-changed number change (one ∷ kept) =
      λ i. below-changed number change one.0 kept i && rises-changed number change kept i

  found-changed : (number : K) (change : V → V) (q : K) (kept : List (K × V))
      → found count q (map (change_kept number change) kept)
      ≡ cond (same_by count number q) (option_map change (found count q kept)) (found count q kept)
  found-changed number change q [] = by (same_by count number q)
    where
      by : (b : Bool) → None ≡ cond b (option_map change None) None
      by true = refl
      by false = refl
  found-changed number change q (one ∷ kept) =
      by (eq_by_cmp (cmp_by count) q one.0) (λ e. eqb-true (count q) (count one.0) (sym (tied count q one.0) ∙ e))
      (found-changed number change q kept)
    where
      here : (b : Bool) → Some (cond b (change one.1) one.1) ≡ cond b (option_map change (Some one.1)) (Some one.1)
      here true = refl
      here false = refl

      by : (b : Bool) → (b ≡ true → count q ≡ count one.0) → found count q (map (change_kept number change) kept)
          ≡ cond (same_by count number q) (option_map change (found count q kept)) (found count q kept)
          → cond b (Some (cond (same_by count number one.0) (change one.1) one.1))
          (found count q (map (change_kept number change) kept))
          ≡ cond (same_by count number q) (option_map change (cond b (Some one.1) (found count q kept)))
          (cond b (Some one.1) (found count q kept))
      by true same rest = ap (λ n. Some (cond (nat_eq (count number) n) (change one.1) one.1)) (sym (same refl))
          ∙ here (same_by count number q)
      by false same rest = rest

  -- One behind all others

  abbrev pub is_above : K → List (K × V) → Bool
  is_above number kept = list_all (λ one. nat_lt (count one.0) (count number)) kept

  below-last : (number : K) (new : V) (x : K) (kept : List (K × V)) → count x < count number
      → T (below_all (cmp_by count) x kept) → T (below_all (cmp_by count) x (kept ++ (number, new) ∷ []))
  below-last number new x [] less below =
      subst (λ r. T (is_lt r && true)) (nat_cmp_is (count x) (count number) Less less) tt
  below-last number new x (one ∷ kept) less below =
      by (is_lt (cmp_by count x one.0)) below (below-last number new x kept less)
    where
      by : (b : Bool) → T (b && below_all (cmp_by count) x kept)
          → (T (below_all (cmp_by count) x kept) → T (below_all (cmp_by count) x (kept ++ (number, new) ∷ [])))
          → T (b && below_all (cmp_by count) x (kept ++ (number, new) ∷ []))
      by true below rest = rest below
      by false below rest = below

  rises-last : (number : K) (new : V) (kept : List (K × V)) → is_above number kept ≡ true → T (rises count kept)
      → T (rises count (kept ++ (number, new) ∷ []))
  rises-last number new [] above rising = tt
  rises-last number new (one ∷ kept) above rising = T_and _ _
      (below-last number new one.0 kept (ltb-true (count one.0) (count number) (and_true_left _ _ above))
      (T_and_left _ _ rising)) (rises-last number new kept (and_true_right _ _ above) (T_and_right _ _ rising))

  none-above : (number : K) (kept : List (K × V)) → is_above number kept ≡ true → found count number kept ≡ None
  none-above number [] above = refl
  none-above number (one ∷ kept) above = ap (λ b. cond b (Some one.1) (found count number kept))
      (tied count number one.0 ∙ ne_eqb (count number) (count one.0)
      (λ same. omega (arith, same, ltb-true (count one.0) (count number) (and_true_left _ _ above))))
      ∙ none-above number kept (and_true_right _ _ above)

-- What is kept in another order, where each key is one count

module _ {K V : Type 0} (count : K → ℕ) (whole : (x y : K) → count x ≡ count y → x ≡ y) where
  ordered : (es kept : List (K × V)) → T (rises count kept)
      → ((q : K) → lookup (same_by count q) es ≡ found count q kept) → in_order_by count es ≡ kept
  ordered es kept rising is = same_entries (cmp_by count) (cmp_total count)
      (λ x y tie. whole x y (nat_cmp-IsAntisymmetric (count x) (count y) tie))
      (in_order_by count es) kept (rises-in_order count es) rising (λ q. found-in_order count q es ∙ is q)

  -- one that is changed
  pub in_order-changed : (number : K) (change : V → V) (es new : List (K × V)) → IsChanged count number change es new
      → in_order_by count new ≡ map (change_kept count number change) (in_order_by count es)
  in_order-changed number change es new is = ordered new (map (change_kept count number change) (in_order_by count es))
      (subst T (sym (rises-changed count number change (in_order_by count es))) (rises-in_order count es)) (λ q. is q
      ∙ (λ i. cond (same_by count number q) (option_map change (sym (found-in_order count q es) i))
      (sym (found-in_order count q es) i)) ∙ sym (found-changed count number change q (in_order_by count es)))

  -- one that is given another value
  pub changed-by : (number : K) (change : V → V) (es new : List (K × V)) (x w : V)
      → lookup (same_by count number) es ≡ Some x → w ≡ change x → ((q : K) → lookup (same_by count q) new
      ≡ cond (same_by count number q) (Some w) (lookup (same_by count q) es)) → IsChanged count number change es new
  changed-by number change es new x w there is writes q = writes q
      ∙ by (same_by count number q) (λ e. whole number q (eqb-true (count number) (count q) e))
    where
      by : (b : Bool) → (b ≡ true → number ≡ q) → cond b (Some w) (lookup (same_by count q) es)
          ≡ cond b (option_map change (lookup (same_by count q) es)) (lookup (same_by count q) es)
      by true here = ap Some is ∙ sym
          (ap (option_map change) ((λ i. lookup (same_by count (sym (here refl) i)) es) ∙ there))
      by false here = refl

  -- one that is not there is not changed
  pub changed-none : (number : K) (change : V → V) (es new : List (K × V))
      → lookup (same_by count number) es ≡ None → new ≡ es → IsChanged count number change es new
  changed-none number change es new none is q = ap (lookup (same_by count q)) is
      ∙ by (same_by count number q) (λ e. whole number q (eqb-true (count number) (count q) e))
    where
      by : (b : Bool) → (b ≡ true → number ≡ q) → lookup (same_by count q) es
          ≡ cond b (option_map change (lookup (same_by count q) es)) (lookup (same_by count q) es)
      by true here =
          let absent : lookup (same_by count q) es ≡ None = (λ i. lookup (same_by count (sym (here refl) i)) es)
          ∙ none in
          absent ∙ sym (ap (option_map change) absent)
      by false here = refl

  -- one that is taken out
  pub in_order-removed : (number : K) (es new : List (K × V)) → ((q : K) → lookup (same_by count q) new
      ≡ cond (same_by count number q) None (lookup (same_by count q) es))
      → in_order_by count new ≡ filter (λ one. not (same_by count number one.0)) (in_order_by count es)
  in_order-removed number es new is = ordered new (filter (λ one. other one.0) (in_order_by count es))
      (is_sorted-where_key (cmp_by count) other (in_order_by count es) (rises-in_order count es)) (λ q. is q
      ∙ cond-not (same_by count number q) None (lookup (same_by count q) es)
      ∙ ap (λ r. cond (other q) r None) (sym (found-in_order count q es)) ∙ sym (find-where_key (cmp_by count) other q
      (λ x tie. ap other (sym (whole q x (nat_cmp-IsAntisymmetric (count q) (count x) tie)))) (in_order_by count es)))
    where
      other : K → Bool
      other x = not (same_by count number x)

  -- one behind all others
  pub in_order-last : (number : K) (new : V) (es fs : List (K × V))
      → is_above count number (in_order_by count es) ≡ true → ((q : K) → lookup (same_by count q) fs
      ≡ cond (same_by count number q) (Some new) (lookup (same_by count q) es))
      → in_order_by count fs ≡ in_order_by count es ++ (number, new) ∷ []
  in_order-last number new es fs above is = ordered fs (in_order_by count es ++ (number, new) ∷ [])
      (rises-last count number new (in_order_by count es) above (rises-in_order count es)) (λ q. is q
      ∙ (λ i. cond (turned q i) (Some new) (sym (found-in_order count q es) i))
      ∙ sym (find-append (cmp_by count) (cmp_total count) (in_order_by count es) number new q
      (none-above count number (in_order_by count es) above)))
    where
      turned : (q : K) → same_by count number q ≡ eq_by_cmp (cmp_by count) q number
      turned q = by (same_by count number q) (eqb-true (count number) (count q)) (eqb-false (count number) (count q))
          ∙ sym (tied count q number)
        where
          by : (b : Bool) → (b ≡ true → count number ≡ count q) → (b ≡ false → (count number ≡ count q → ⊥))
              → b ≡ same_by count q number
          by true same apart = sym (eq-eqb (count q) (count number) (sym (same refl)))
          by false same apart = sym (ne_eqb (count q) (count number) (λ is. apart refl (sym is)))

-- as many as there are

module _ {K V : Type 0} (count : K → ℕ) where
  absent : (k : K) (es : List (K × V)) → AllByRecursion (λ y. same_by count k y ≡ false) (keys_of es)
      → lookup (same_by count k) es ≡ None
  absent k [] apart = refl
  absent k (x ∷ es) apart = ap (λ b. cond b (Some x.1) (lookup (same_by count k) es)) apart.0 ∙ absent k es apart.1

  pub length-in_order : (es : List (K × V)) → IsDistinct (same_by count) (keys_of es)
      → length (in_order_by count es) ≡ length es
  length-in_order [] distinct = refl
  length-in_order (e ∷ es) distinct =
      length-put (cmp_by count) (cmp_total count) e.0 e.1 (in_order_by count es) (rises-in_order count es)
      ∙ ap (λ r. cond (is_some r) (length (in_order_by count es)) (length (in_order_by count es) + 1))
      (found-in_order count e.0 es ∙ absent e.0 es (IsDistinct-head (same_by count) e.0 (keys_of es) distinct))
      ∙ more (length-in_order es (IsDistinct-tail (same_by count) e.0 (keys_of es) distinct))
    where
      more : length (in_order_by count es) ≡ length es → length (in_order_by count es) + 1 ≡ suc (length es)
      more same = omega (arith, same)
