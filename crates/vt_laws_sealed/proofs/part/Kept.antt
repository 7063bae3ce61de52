-- Lists of which something is kept: filters, searches and lists that agree.
use Rattle.std.proofs.Common.{◌≡◌, refl, ap, inl, inr, ⊎_elim, ℕ, nat_eq, Bool, true, false, List, [], ◌∷◌, Option, Some, map, filter, find, not, eqb-true, length, ◌≤◌, arith, unwrap_or, filter_map}
use Rattle.vt_spec.proofs.Common.{Among, among-filter, among-from_filter, common_steps, cons_option, each_once, filter_here, filter_skip}

-- lists of what is alike are alike
pub filter_map_same : {A B : Type 0} (f g : A → Option B) (xs : List A) → ((x : A) → Among x xs → f x ≡ g x)
    → filter_map f xs ≡ filter_map g xs
filter_map_same f g [] h = refl
filter_map_same f g (x ∷ xs) h = cc (h x (inl refl), filter_map_same f g xs (λ y m. h y (inr m)))

pub filter_map_map : {A B C : Type 0} (f : B → Option C) (h : A → B) (xs : List A)
    → filter_map f (map h xs) ≡ filter_map (λ x. f (h x)) xs
filter_map_map f h [] = refl
filter_map_map f h (x ∷ xs) = ap (cons_option (f (h x))) (filter_map_map f h xs)

module _ {A : Type 0} where
  pub filter_again : (p : A → Bool) (xs : List A) → filter p (filter p xs) ≡ filter p xs
  filter_again p [] = refl
  filter_again p (x ∷ xs) = grind (arith, common_steps, filter_here, filter_skip, filter_again p xs)

  -- what is kept once is kept again
  pub kept_again : (k : A → Option A) → ((x y : A) → k x ≡ Some y → k y ≡ Some y) → (xs : List A)
      → filter_map k (filter_map k xs) ≡ filter_map k xs
  kept_again k again [] = refl
  kept_again k again (x ∷ xs) = grind (arith, common_steps, kept_again k again xs)

  -- a test finds the same among what is kept, if it passes only what is kept as it is, and fails what is kept otherwise
  pub filter_kept : (k : A → Option A) (p : A → Bool) → ((x : A) → p x ≡ true → k x ≡ Some x)
      → ((x y : A) → k x ≡ Some y → p x ≡ false → p y ≡ false) → (xs : List A)
      → filter p (filter_map k xs) ≡ filter p xs
  filter_kept k p whole none [] = refl
  filter_kept k p whole none (x ∷ xs) =
      grind (arith, common_steps, filter_skip, filter_here, filter_kept k p whole none xs)

  -- so does a search, which may find what was kept otherwise
  pub find_kept : (k : A → Option A) (p : A → Bool) → ((x : A) → p x ≡ true → (y : A) × (k x ≡ Some y) × (p y ≡ true))
      → ((x y : A) → k x ≡ Some y → p x ≡ false → p y ≡ false) → (B : Type 0) (f : A → B)
      → ((x y : A) → k x ≡ Some y → f y ≡ f x)
      → (d : A) (xs : List A) → f (unwrap_or (find p (filter_map k xs)) d) ≡ f (unwrap_or (find p xs) d)
  find_kept k p kept none B f same d [] = refl
  find_kept k p kept none B f same d (x ∷ xs) = grind (arith, common_steps, find_kept k p kept none B f same d xs)

-- what is in a list without repetitions is in it
pub among-from_each_once : (xs : List ℕ) (x : ℕ) → Among x (each_once nat_eq xs) → Among x xs
among-from_each_once [] x m = m
among-from_each_once (y ∷ ys) x m = ⊎_elim inl (λ later. inr (among-from_each_once ys x
    (among-from_filter (λ z. not (nat_eq y z)) (each_once nat_eq ys) x later).0)) m

-- what is in a list is in it without repetitions
pub among-each_once : (xs : List ℕ) (x : ℕ) → Among x xs → Among x (each_once nat_eq xs)
among-each_once [] x m = absurd m
among-each_once (y ∷ ys) x m = grind (arith, common_steps, eqb-true, among-filter, among-each_once ys x)

-- filters by two tests that agree on what is kept
pub filter_both : {A : Type 0} (k : A → Option A) (p q : A → Bool) (xs : List A)
    → ((x : A) → Among x xs → q x ≡ true → (k x ≡ Some x) × (p x ≡ true))
    → ((x y : A) → Among x xs → q x ≡ false → k x ≡ Some y → p y ≡ false) → filter p (filter_map k xs) ≡ filter q xs
filter_both k p q [] pass fail = refl
filter_both {A} k p q (x ∷ xs) pass fail =
    grind (arith, common_steps, filter_both k p q xs (λ y m. pass y (inr m)) (λ y z m. fail y z (inr m)))

-- what is kept is no more
pub length-filter_map : {A B : Type 0} (k : A → Option B) (xs : List A) → length (filter_map k xs) ≤ length xs
length-filter_map {A} {B} k [] = omega arith
length-filter_map {A} {B} k (x ∷ xs) = grind (arith, common_steps, length-filter_map k xs)
