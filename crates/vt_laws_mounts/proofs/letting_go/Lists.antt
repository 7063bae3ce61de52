-- What stands in a list: tests over lists that are shortened or changed.
use Rattle.std.proofs.Common.{◌≡◌, refl, sym, ap, subst, ◌∙◌, inl, inr, ⊎_elim, ℕ, nat_eq, eqb-true, eq-eqb, Bool, true, false, cond, ◌&&◌, List, [], ◌∷◌, filter, find, map, true≢false, flat_map, ◌++◌, unwrap_or, None, Option, arith, ◌+◌, Some, nat_lt}
use Rattle.vt_spec.proofs.Common.{any_pair, common_steps, holds_of, is_among, list_any, one_more_is_some, or_parts}
use Rattle.std.proofs.Math.Nat.{add_assoc}
use Rattle.vt_spec.proofs.Truths.{as_many_with_none}
use Rattle.vt_laws_mounts.specs.LettingGo.Counts.{times}
pub use Rattle.std.proofs.lemmas.Bool.{or_left, or_right}
pub use Rattle.vt_spec.proofs.Lists.{Among, all_from_among, among-append, among-append_left, among-append_right, among-filter, among-filter_map, among-flat_map, among-from_filter, among-from_filter_map, among-from_flat_map, among-from_map, among-map, among_from_all, any_among, any_from_among, among_from_list_all, filter_here, filter_skip, list_all_from_among, map_same, none_among, none_from_among}
pub use Rattle.vt_spec.proofs.Found.{is_among_left}
pub use Rattle.vt_spec.proofs.Found.{is_among_right}
pub use Rattle.vt_spec.proofs.Found.{filter_all}
pub use Rattle.vt_spec.proofs.Found.{filter_alike}

module _ {A : Type 0} where
  -- what is found is there and passes
  pub found_in : (test : A → Bool) (xs : List A) (found : A) → find test xs ≡ Some found
      → Among found xs × (test found ≡ true)
  found_in test [] found e = cc
  found_in test (first ∷ rest) found e = grind (arith, common_steps, found_in test rest found)

  -- where nothing passes nothing is found
  pub find_none : (test : A → Bool) (xs : List A) → ((x : A) → Among x xs → test x ≡ false) → find test xs ≡ None
  find_none test [] none = refl
  find_none test (first ∷ rest) none = cc (none first (inl refl), find_none test rest (λ x m. none x (inr m)))

  -- what is there is found by its number
  pub found_by : (number : A → ℕ) (default : A) (xs : List A)
      → any_pair (λ (a b : A). nat_eq (number a) (number b)) xs ≡ false
      → (x : A) → Among x xs → unwrap_or (find (λ y. nat_eq (number x) (number y)) xs) default ≡ x
  found_by number default [] one x m = absurd m
  found_by number default (first ∷ rest) one x m =
      let parts = or_parts _ _ one in
      by parts.0 _ refl m (λ n. found_by number _ rest parts.1 x n)
    where
      by : list_any (λ b. nat_eq (number first) (number b)) rest ≡ false → (b : Bool)
          → nat_eq (number x) (number first) ≡ b → Among x (first ∷ rest)
          → (Among x rest → unwrap_or (find (λ y. nat_eq (number x) (number y)) rest) default ≡ x)
          → unwrap_or (cond b (Some first) (find (λ y. nat_eq (number x) (number y)) rest)) default ≡ x
      by others true e n next = ⊎_elim (λ same. sym same) (λ later. absurd (true≢false
          (sym (eq-eqb (number first) (number x) (sym (eqb-true (number x) (number first) e)))
          ∙ none_among _ rest others x later))) n
      by others false e n next = ⊎_elim (λ same. absurd (cc (eq-eqb (number x) (number first) (ap number same)))) next n

  -- a filter that nothing passes leaves nothing
  pub nothing_passes : (p : A → Bool) (xs : List A) → ((x : A) → Among x xs → p x ≡ false) → filter p xs ≡ []
  nothing_passes p [] h = refl
  nothing_passes p (y ∷ ys) h = filter_skip p y ys (h y (inl refl)) ∙ nothing_passes p ys (λ x m. h x (inr m))

  pub filter_twice : (p q r : A → Bool) → ((x : A) → r x ≡ (q x && p x)) → (xs : List A)
      → filter p (filter q xs) ≡ filter r xs
  filter_twice p q r h [] = refl
  filter_twice p q r h (y ∷ ys) = grind (arith, common_steps, h y, filter_twice p q r h ys)

  -- what does not pass is not missed
  pub any-filter : (t q : A → Bool) (xs : List A) → ((x : A) → Among x xs → q x ≡ false → t x ≡ false)
      → list_any t (filter q xs) ≡ list_any t xs
  any-filter t q [] h = refl
  any-filter t q (y ∷ ys) h = grind (arith, common_steps, any-filter t q ys)

module _ {A B : Type 0} where
  pub any-map : (p : B → Bool) {q : A → Bool} (f : A → B) (xs : List A) → ((x : A) → p (f x) ≡ q x)
      → list_any p (map f xs) ≡ list_any q xs
  any-map p f [] h = refl
  any-map p {q = q} f (y ∷ ys) h = cc (h y, any-map p f ys h)

  pub filter-map : (p : B → Bool) {q : A → Bool} (f : A → B) (xs : List A) → ((x : A) → p (f x) ≡ q x)
      → filter p (map f xs) ≡ map f (filter q xs)
  filter-map p f [] h = refl
  filter-map p {q = q} f (y ∷ ys) h = grind (arith, common_steps, h y, filter-map p f ys h)

  -- lists put together out of what does not change
  pub flat_map-step : (f : A → A) (g : A → List B) (xs : List A) → ((x : A) → Among x xs → g (f x) ≡ g x)
      → flat_map g (map f xs) ≡ flat_map g xs
  flat_map-step f g [] h = refl
  flat_map-step f g (y ∷ ys) h = cc (h y (inl refl), flat_map-step f g ys (λ x m. h x (inr m)))

  pub flat_map-map : (f : A → A) (g : A → List B) (xs : List A) → ((x : A) → g (f x) ≡ g x)
      → flat_map g (map f xs) ≡ flat_map g xs
  flat_map-map f g xs h = flat_map-step f g xs (λ x m. h x)

  pub flat_map_none : (g : A → List B) (xs : List A) → ((x : A) → Among x xs → g x ≡ []) → flat_map g xs ≡ []
  flat_map_none g [] h = refl
  flat_map_none g (y ∷ ys) h = cc (h y (inl refl), flat_map_none g ys (λ x m. h x (inr m)))

  -- a filter that skips only what gives nothing
  pub flat_map-filter : (p : A → Bool) (g : A → List B) (xs : List A) → ((x : A) → p x ≡ false → g x ≡ [])
      → flat_map g (filter p xs) ≡ flat_map g xs
  flat_map-filter p g [] h = refl
  flat_map-filter p g (y ∷ ys) h = grind (arith, common_steps, flat_map-filter p g ys h)

  pub flat_map_alike : (f g : A → List B) (xs : List A) → ((x : A) → Among x xs → f x ≡ g x)
      → flat_map f xs ≡ flat_map g xs
  flat_map_alike f g [] h = refl
  flat_map_alike f g (y ∷ ys) h = cc (h y (inl refl), flat_map_alike f g ys (λ x m. h x (inr m)))

module _ {A B C : Type 0} where
  pub flat_map-of_map : (g : B → List C) (f : A → B) (xs : List A) → flat_map g (map f xs) ≡ flat_map (λ x. g (f x)) xs
  flat_map-of_map g f [] = refl
  flat_map-of_map g f (y ∷ ys) = ap (λ l. g (f y) ++ l) (flat_map-of_map g f ys)

-- a filter after one that keeps whatever it keeps is that filter
pub filter_less : {A : Type 0} (p q : A → Bool) (xs : List A) → ((x : A) → Among x xs → q x ≡ false → p x ≡ false)
    → filter p (filter q xs) ≡ filter p xs
filter_less p q [] h = refl
filter_less p q (y ∷ ys) h = grind (arith, common_steps, filter_less p q ys)

module _ {A : Type 0} where
  -- some pass just where their count is not zero
  pub any_counted : (test : A → Bool) (list : List A) → list_any test list ≡ nat_lt 0 (times test list)
  any_counted test [] = refl
  any_counted test (a ∷ rest) = grind (arith, common_steps, any_counted test rest, one_more_is_some, as_many_with_none)

  -- how many pass with one that stands between two parts of a list, and how many without it
  pub times_around : (test : A → Bool) (front back : List A) (a : A)
      → times test (front ++ (a ∷ back)) ≡ times test (front ++ back) + cond (test a) 1 0
  times_around test [] back a = omega arith
  times_around test (b ∷ front) back a = ap (λ n. cond (test b) 1 0 + n) (times_around test front back a)
      ∙ sym (add_assoc (cond (test b) 1 0) (times test (front ++ back)) (cond (test a) 1 0))

-- a number that is the one there may be is the one that is there
pub held_number : (number : ℕ) (own : Option ℕ) → holds_of (nat_eq number) own ≡ true → own ≡ Some number
held_number number None e = cc
held_number number (Some one) e = ap Some (sym (eqb-true number one e))

-- a number among numbers
pub among_numbers : (number : ℕ) (numbers : List ℕ) → is_among nat_eq number numbers ≡ true → Among number numbers
among_numbers number numbers h =
    let t : (x : ℕ) × Among x numbers × (nat_eq number x ≡ true) = any_among _ _ h in
    subst (λ n. Among n numbers) (sym (eqb-true number t.0 t.2)) t.1

pub is_among_numbers : (number : ℕ) (numbers : List ℕ) → Among number numbers → is_among nat_eq number numbers ≡ true
is_among_numbers number numbers m = any_from_among _ _ number m (eq-eqb number number refl)
