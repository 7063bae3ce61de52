-- What is made of a list in another order.
use Rattle.std.proofs.Common.{◌≡◌, refl, ap, ℕ, zero, suc, ◌<◌, Bool, true, false, cond, ◌&&◌, List, [], ◌∷◌, length, get_or, set, swap, filter, flat_map, append_assoc, arith, IsPermutation}
use Rattle.vt_spec.proofs.Common.{IsPermutation-append_left, IsPermutation-append_right, IsPermutation-refl, IsPermutation-trans, common_steps, list_all}
use Rattle.std.proofs.lemmas.List.Sorted.{IsPermutation-append_comm, IsPermutation-keeps}

-- A relation holds along each permutation if it is reflexive and transitive, and goes under a head and over an exchange
-- of two heads.
module _ {X : Type 0} (R : List X → List X → Type 0) (same : (xs : List X) → R xs xs)
    (skip : (x : X) (xs ys : List X) → R xs ys → R (x ∷ xs) (x ∷ ys))
    (turn : (x y : X) (xs : List X) → R (x ∷ y ∷ xs) (y ∷ x ∷ xs))
    (onward : (xs ys zs : List X) → R xs ys → R ys zs → R xs zs) where
  to_head : (l : List X) (j : ℕ) (x d : X) → j < length l → R (x ∷ l) (get_or l j d ∷ set l j x)
  to_head [] j x d h = absurd (omega arith)
  to_head (y ∷ l) zero x d h = turn x y l
  to_head (y ∷ l) (suc j) x d h = onward _ _ _ (turn x y l)
      (onward _ _ _ (skip y _ _ (to_head l j x d (omega arith))) (turn y (get_or l j d) (set l j x)))

  exchanged : (l : List X) (i j : ℕ) (d : X) → i < length l → j < length l
      → R l (set (set l i (get_or l j d)) j (get_or l i d))
  exchanged [] i j d p q = absurd (omega arith)
  exchanged (x ∷ l) zero zero d p q = same (x ∷ l)
  exchanged (x ∷ l) zero (suc j) d p q = to_head l j x d (omega arith)
  exchanged (x ∷ l) (suc i) zero d p q = to_head l i x d (omega arith)
  exchanged (x ∷ l) (suc i) (suc j) d p q = skip x _ _ (exchanged l i j d (omega arith) (omega arith))

  swapped : (l : List X) (i j : ℕ) → i < length l → j < length l → R l (swap l i j)
  swapped [] i j p q = same []
  swapped (x ∷ l) i j p q = exchanged (x ∷ l) i j x p q

  pub along_permutation : (xs ys : List X) → IsPermutation xs ys → R xs ys
  along_permutation xs = IsPermutation-keeps xs (R xs) (same xs) (λ l i j p q h. onward xs l _ h (swapped l i j p q))

pub IsPermutation-flat_map : {A B : Type 0} (f : A → List B) (xs ys : List A) → IsPermutation xs ys
    → IsPermutation (flat_map f xs) (flat_map f ys)
IsPermutation-flat_map f = along_permutation _ (λ xs. IsPermutation-refl _)
    (λ x xs ys h. IsPermutation-append_right (f x) _ _ h) (λ x y xs. rw (← append_assoc (f x), ← append_assoc (f y))
    (IsPermutation-append_left (flat_map f xs) _ _ (IsPermutation-append_comm (f x) (f y))))
    (λ xs ys zs. IsPermutation-trans _ _ _)

filter_as_flat_map : {A : Type 0} (p : A → Bool) (xs : List A) → filter p xs ≡ flat_map (λ x. cond (p x) (x ∷ []) []) xs
filter_as_flat_map p [] = refl
filter_as_flat_map p (x ∷ xs) = grind (arith, common_steps, filter_as_flat_map p xs)

pub IsPermutation-filter : {A : Type 0} (p : A → Bool) (xs ys : List A) → IsPermutation xs ys
    → IsPermutation (filter p xs) (filter p ys)
IsPermutation-filter p xs ys h = rw (filter_as_flat_map p xs, filter_as_flat_map p ys)
    (IsPermutation-flat_map (λ x. cond (p x) (x ∷ []) []) xs ys h)

pub and_swapped : (a b c : Bool) → (a && (b && c)) ≡ (b && (a && c))
and_swapped true b c = refl
and_swapped false true c = refl
and_swapped false false c = refl

pub list_all-IsPermutation : {A : Type 0} (p : A → Bool) (xs ys : List A) → IsPermutation xs ys
    → list_all p xs ≡ list_all p ys
list_all-IsPermutation p = along_permutation _ (λ xs. refl) (λ x xs ys h. ap (λ b. p x && b) h)
    (λ x y xs. and_swapped (p x) (p y) (list_all p xs)) (λ xs ys zs first second. cc)
