-- What is asked of all that is kept by hash under numbers does not depend on the order in which it is kept.
use Rattle.std.proofs.Common.{◌≡◌, ℕ, Bool, true, false, cond, ◌||◌, List, [], ◌∷◌, map, Option, None, Some, option_map, refl, sym, ap, ◌∙◌, is_eq, Ordering, Less, Equal, Greater, eq-eqb}
use Rattle.vt_spec.proofs.Common.{AllByRecursion, IsDistinct-head, IsDistinct-tail, by_order, holds_of, keys_of, list_any, lookup, nat_eq_false_turned, put}
use Rattle.std.specs.FinMap.Entries.{find}
use Rattle.std.specs.List.{IsDistinct}
use Rattle.vt_location.specs.InOrder.{cmp_by, in_order_by}
use Rattle.vt_location.proofs.OrderLemmas.{found-in_order, same_by}

-- two tests that agree where they are asked
pub any_alike : {A : Type 0} (p q : A → Bool) (xs : List A) → AllByRecursion (λ x. p x ≡ q x) xs
    → list_any p xs ≡ list_any q xs
any_alike p q [] alike = refl
any_alike p q (x ∷ xs) alike = λ i. alike.0 i || any_alike p q xs alike.1 i

pub any_same : {A : Type 0} (p q : A → Bool) → ((x : A) → p x ≡ q x) → (xs : List A) → list_any p xs ≡ list_any q xs
any_same p q alike [] = refl
any_same p q alike (x ∷ xs) = λ i. alike x i || any_same p q alike xs i

pub any_mapped : {A B : Type 0} (p : B → Bool) (f : A → B) (xs : List A)
    → list_any p (map f xs) ≡ list_any (λ x. p (f x)) xs
any_mapped p f [] = refl
any_mapped p f (x ∷ xs) = ap (λ b. p (f x) || b) (any_mapped p f xs)

pub holds_mapped : {A B : Type 0} (p : B → Bool) (f : A → B) (o : Option A)
    → holds_of p (option_map f o) ≡ holds_of (λ a. p (f a)) o
holds_mapped p f None = refl
holds_mapped p f (Some a) = refl

or_swapped : (a b c : Bool) → (a || (b || c)) ≡ (b || (a || c))
or_swapped true true c = refl
or_swapped true false c = refl
or_swapped false true c = refl
or_swapped false false c = refl

module _ {K V : Type 0} (count : K → ℕ) where
  any-put : (q : K × V → Bool) (k : K) (v : V) (kept : List (K × V)) → find (cmp_by count) k kept ≡ None
      → list_any q (put (cmp_by count) k v kept) ≡ (q (k, v) || list_any q kept)
  any-put q k v [] absent = refl
  any-put q k v (x ∷ kept) absent = by (cmp_by count k x.0) absent (any-put q k v kept)
    where
      by : (o : Ordering) → cond (is_eq o) (Some x.1) (find (cmp_by count) k kept) ≡ None
          → (find (cmp_by count) k kept ≡ None
          → list_any q (put (cmp_by count) k v kept) ≡ (q (k, v) || list_any q kept))
          → list_any q (by_order o ((k, v) ∷ x ∷ kept) ((x.0, v) ∷ kept) (x ∷ put (cmp_by count) k v kept))
          ≡ (q (k, v) || (q x || list_any q kept))
      by Less absent rest = refl
      by Equal absent rest = absurd cc
      by Greater absent rest = ap (λ b. q x || b) (rest absent) ∙ or_swapped (q x) (q (k, v)) (list_any q kept)

  missing : (k : K) (es : List (K × V)) → AllByRecursion (λ y. same_by count k y ≡ false) (keys_of es)
      → lookup (same_by count k) es ≡ None
  missing k [] apart = refl
  missing k (x ∷ es) apart = ap (λ b. cond b (Some x.1) (lookup (same_by count k) es)) apart.0 ∙ missing k es apart.1

  any-in_order : (q : K × V → Bool) (es : List (K × V)) → IsDistinct (same_by count) (keys_of es)
      → list_any q (in_order_by count es) ≡ list_any q es
  any-in_order q [] distinct = refl
  any-in_order q (e ∷ es) distinct = any-put q e.0 e.1 (in_order_by count es)
      (found-in_order count e.0 es ∙ missing e.0 es (IsDistinct-head (same_by count) e.0 (keys_of es) distinct))
      ∙ ap (λ b. q e || b) (any-in_order q es (IsDistinct-tail (same_by count) e.0 (keys_of es) distinct))

  -- what is kept under a key, if it passes
  abbrev pub passes_under : (K × V → Bool) → List (K × V) → K → Bool
  passes_under q es k = holds_of (λ v. q (k, v)) (lookup (same_by count k) es)

  turned : (k : K) (es : List (K × V)) → AllByRecursion (λ y. same_by count k y ≡ false) (keys_of es)
      → AllByRecursion (λ y. same_by count y k ≡ false) (keys_of es)
  turned k [] apart = tt
  turned k (e ∷ es) apart = (nat_eq_false_turned (count k) (count e.0) apart.0, turned k es apart.1)

  later : (q : K × V → Bool) (x : K × V) (es : List (K × V)) (ks : List K)
      → AllByRecursion (λ y. same_by count y x.0 ≡ false) ks
      → AllByRecursion (λ k. passes_under q (x ∷ es) k ≡ passes_under q es k) ks
  later q x es [] apart = tt
  later q x es (k ∷ ks) apart = (
    ap (λ b. holds_of (λ v. q (k, v)) (cond b (Some x.1) (lookup (same_by count k) es))) apart.0,
    later q x es ks apart.1,
  )

  any-looked : (q : K × V → Bool) (es : List (K × V)) → IsDistinct (same_by count) (keys_of es)
      → list_any (passes_under q es) (keys_of es) ≡ list_any q es
  any-looked q [] distinct = refl
  any-looked q (e ∷ es) distinct =
      (λ i. holds_of (λ v. q (e.0, v)) (cond (eq-eqb (count e.0) (count e.0) refl i) (Some e.1)
      (lookup (same_by count e.0) es)) || any_alike (passes_under q (e ∷ es)) (passes_under q es) (keys_of es)
      (later q e es (keys_of es)
      (turned e.0 es (IsDistinct-head (same_by count) e.0 (keys_of es) distinct))) i)
      ∙ ap (λ b. q e || b) (any-looked q es (IsDistinct-tail (same_by count) e.0 (keys_of es) distinct))

  -- asked under each key, in whatever order, as of all in their order
  pub asked-in_order : (q : K × V → Bool) (es : List (K × V)) → IsDistinct (same_by count) (keys_of es)
      → list_any (passes_under q es) (keys_of es) ≡ list_any q (in_order_by count es)
  asked-in_order q es distinct = any-looked q es distinct ∙ sym (any-in_order q es distinct)
