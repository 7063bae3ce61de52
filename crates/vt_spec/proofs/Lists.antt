-- Lists and chains.
use Rattle.std.proofs.Common.{◌≡◌, refl, sym, ap, subst, ◌∙◌, ◌⊎◌, inl, inr, ⊎_elim, ℕ, zero, suc, nat_eq, eqb-true, eq-eqb, Bool, true, false, cond, ◌||◌, List, [], ◌∷◌, filter, find, map, true≢false, Option, Some, None, arith, flat_map, ◌++◌, ◌&&◌}
use Rattle.std.specs.Prelude.{All, Contains}
use Rattle.std.specs.List.{cons_option, filter_map, list_all, list_any}
use Rattle.std.proofs.lemmas.Bool.{and_parts, or_cases, or_parts}
use Rattle.std.proofs.lemmas.List.Elements.{All-nil, All-cons, All-head, All-tail}
use Rattle.vt_spec.specs.Lists.{chain, folded, is_among, last_or, any_pair}

-- x stands in a list
abbrev pub Among : {A : Type 0} → A → List A → Type 0
Among x [] = ⊥
Among x (y ∷ ys) = (x ≡ y) ⊎ Among x ys

module _ {A : Type 0} where
  pub all_from_among : (P : A → Type 0) (xs : List A) → ((x : A) → Among x xs → P x) → All P xs
  all_from_among P [] h = All-nil P
  all_from_among P (y ∷ ys) h = All-cons P y ys (h y (inl refl)) (all_from_among P ys (λ x m. h x (inr m)))

  pub among_from_all : (P : A → Type 0) (xs : List A) → All P xs → (x : A) → Among x xs → P x
  among_from_all P [] h x m = absurd m
  among_from_all P (y ∷ ys) h x m =
      ⊎_elim (λ e. subst P (sym e) (All-head P y ys h)) (λ l. among_from_all P ys (All-tail P y ys h) x l) m

  pub among_from_list_all : (p : A → Bool) (xs : List A) → list_all p xs ≡ true → (x : A) → Among x xs → p x ≡ true
  among_from_list_all p [] h x m = absurd m
  among_from_list_all p (y ∷ ys) h x m =
      let parts : (p y ≡ true) × (list_all p ys ≡ true) = and_parts (p y) (list_all p ys) h in
      ⊎_elim (λ e. ap p e ∙ parts.0) (λ l. among_from_list_all p ys parts.1 x l) m

  pub none_among : (p : A → Bool) (xs : List A) → list_any p xs ≡ false → (x : A) → Among x xs → p x ≡ false
  none_among p [] h x m = absurd m
  none_among p (y ∷ ys) h x m =
      let parts : (p y ≡ false) × (list_any p ys ≡ false) = or_parts (p y) (list_any p ys) h in
      ⊎_elim (λ e. ap p e ∙ parts.0) (λ l. none_among p ys parts.1 x l) m

  pub among_from_contains : (xs : List A) (x : A) → Contains xs x → Among x xs
  among_from_contains [] x c = absurd (omega (arith, c.1))
  among_from_contains (y ∷ ys) x (zero, below, e) = inl (sym e)
  among_from_contains (y ∷ ys) x (suc k, below, e) = inr (among_from_contains ys x (k, omega (arith, below), e))

  pub contains_from_among : (xs : List A) (x : A) → Among x xs → Contains xs x
  contains_from_among [] x m = absurd m
  contains_from_among (y ∷ ys) x m = ⊎_elim (λ e. (zero, omega arith, sym e))
      (λ l. let c : Contains ys x = contains_from_among ys x l in (suc c.0, omega (arith, c.1), c.2)) m

  pub filter_here : (p : A → Bool) (y : A) (ys : List A) → p y ≡ true → filter p (y ∷ ys) ≡ y ∷ filter p ys
  filter_here p y ys e = ap (λ b. cond b (y ∷ filter p ys) (filter p ys)) e

  pub filter_skip : (p : A → Bool) (y : A) (ys : List A) → p y ≡ false → filter p (y ∷ ys) ≡ filter p ys
  filter_skip p y ys e = ap (λ b. cond b (y ∷ filter p ys) (filter p ys)) e

  -- what a filter keeps
  pub among-filter : (p : A → Bool) (xs : List A) (x : A) → Among x xs → p x ≡ true → Among x (filter p xs)
  among-filter p [] x m h = absurd m
  among-filter p (y ∷ ys) x m h = ⊎_elim (λ e. subst (Among x) (sym (filter_here p y ys (ap p (sym e) ∙ h))) (inl e))
      (λ l. later (p y) refl (among-filter p ys x l h)) m
    where
      later : (b : Bool) → p y ≡ b → Among x (filter p ys) → Among x (filter p (y ∷ ys))
      later true e l = subst (Among x) (sym (filter_here p y ys e)) (inr l)
      later false e l = subst (Among x) (sym (filter_skip p y ys e)) l

  pub among-from_filter : (p : A → Bool) (xs : List A) (x : A) → Among x (filter p xs) → Among x xs × (p x ≡ true)
  among-from_filter p [] x m = absurd m
  among-from_filter p (y ∷ ys) x m = by (p y) refl (among-from_filter p ys x)
    where
      by : (b : Bool) → p y ≡ b → (Among x (filter p ys) → Among x ys × (p x ≡ true)) → Among x (y ∷ ys) × (p x ≡ true)
      by true e next = ⊎_elim (λ same. (inl same, ap p same ∙ e))
          (λ l. let found : Among x ys × (p x ≡ true) = next l in (inr found.0, found.1))
          (subst (Among x) (filter_here p y ys e) m)
      by false e next = let found : Among x ys × (p x ≡ true) =
          next (subst (Among x) (filter_skip p y ys e) m) in (inr found.0, found.1)

module _ {A : Type 0} where
  -- two tests that agree find the same
  pub find_agrees : (p q : A → Bool) → ((x : A) → p x ≡ q x) → (xs : List A) → find p xs ≡ find q xs
  find_agrees p q h [] = refl
  find_agrees p q h (y ∷ ys) = ap (λ b. cond b (Some y) (find p ys)) (h y)
      ∙ ap (λ rest. cond (q y) (Some y) rest) (find_agrees p q h ys)

  pub map_same : (f : A → A) (xs : List A) → ((x : A) → Among x xs → f x ≡ x) → map f xs ≡ xs
  map_same f [] h = refl
  map_same f (y ∷ ys) h = ap (λ x. x ∷ map f ys) (h y (inl refl))
      ∙ ap (λ rest. y ∷ rest) (map_same f ys (λ x m. h x (inr m)))

-- what a list is made of
module _ {A B : Type 0} where
  pub among-map : (f : A → B) (xs : List A) (x : A) → Among x xs → Among (f x) (map f xs)
  among-map f [] x m = absurd m
  among-map f (y ∷ ys) x m = ⊎_elim (λ e. inl (ap f e)) (λ l. inr (among-map f ys x l)) m

  pub among-from_map : (f : A → B) (xs : List A) (b : B) → Among b (map f xs) → (x : A) × Among x xs × (b ≡ f x)
  among-from_map f [] b m = absurd m
  among-from_map f (y ∷ ys) b m = ⊎_elim (λ e. (y, inl refl, e))
      (λ l. let t : (x : A) × Among x ys × (b ≡ f x) = among-from_map f ys b l in (t.0, inr t.1, t.2)) m

  pub among-filter_map : (h : A → Option B) (xs : List A) (x : A) (b : B) → Among x xs → h x ≡ Some b
      → Among b (filter_map h xs)
  among-filter_map h [] x b m e = absurd m
  among-filter_map h (y ∷ ys) x b m e = ⊎_elim
      (λ same. subst (λ o. Among b (cons_option o (filter_map h ys))) (sym (ap h (sym same) ∙ e)) (inl refl))
      (λ l. later (h y) (among-filter_map h ys x b l e)) m
    where
      later : (o : Option B) → Among b (filter_map h ys) → Among b (cons_option o (filter_map h ys))
      later None l = l
      later (Some c) l = inr l

  pub among-from_filter_map : (h : A → Option B) (xs : List A) (b : B) → Among b (filter_map h xs)
      → (x : A) × Among x xs × (h x ≡ Some b)
  among-from_filter_map h [] b m = absurd m
  among-from_filter_map h (y ∷ ys) b m = by (h y) refl m (among-from_filter_map h ys b)
    where
      by : (o : Option B) → h y ≡ o → Among b (cons_option o (filter_map h ys))
          → (Among b (filter_map h ys) → (x : A) × Among x ys × (h x ≡ Some b))
          → (x : A) × Among x (y ∷ ys) × (h x ≡ Some b)
      by None e l next = let t : (x : A) × Among x ys × (h x ≡ Some b) = next l in (t.0, inr t.1, t.2)
      by (Some c) e l next = ⊎_elim (λ same. (y, inl refl, e ∙ ap Some (sym same)))
          (λ later. let t : (x : A) × Among x ys × (h x ≡ Some b) = next later in (t.0, inr t.1, t.2)) l

module _ {A : Type 0} where
  pub any_among : (p : A → Bool) (xs : List A) → list_any p xs ≡ true → (x : A) × Among x xs × (p x ≡ true)
  any_among p [] h = absurd (true≢false (sym h))
  any_among p (y ∷ ys) h = ⊎_elim (λ e. (y, inl refl, e))
      (λ l. let t : (x : A) × Among x ys × (p x ≡ true) = any_among p ys l in (t.0, inr t.1, t.2))
      (or_cases (p y) (list_any p ys) h)

  pub any_from_among : (p : A → Bool) (xs : List A) (x : A) → Among x xs → p x ≡ true → list_any p xs ≡ true
  any_from_among p [] x m e = absurd m
  any_from_among p (y ∷ ys) x m e = ⊎_elim (λ same. ap (λ b. b || list_any p ys) (ap p (sym same) ∙ e))
      (λ l. later (p y) (any_from_among p ys x l e)) m
    where
      later : (b : Bool) → list_any p ys ≡ true → (b || list_any p ys) ≡ true
      later true h = refl
      later false h = h

  pub among-append : (xs ys : List A) (x : A) → Among x (xs ++ ys) → Among x xs ⊎ Among x ys
  among-append [] ys x m = inr m
  among-append (y ∷ xs) ys x m =
      ⊎_elim (λ e. inl (inl e)) (λ l. ⊎_elim (λ a. inl (inr a)) inr (among-append xs ys x l)) m

  pub among-append_left : (xs ys : List A) (x : A) → Among x xs → Among x (xs ++ ys)
  among-append_left [] ys x m = absurd m
  among-append_left (y ∷ xs) ys x m = ⊎_elim inl (λ l. inr (among-append_left xs ys x l)) m

  pub among-append_right : (xs ys : List A) (x : A) → Among x ys → Among x (xs ++ ys)
  among-append_right [] ys x m = m
  among-append_right (y ∷ xs) ys x m = inr (among-append_right xs ys x m)

module _ {A B : Type 0} where
  pub among-flat_map : (f : A → List B) (xs : List A) (x : A) (b : B) → Among x xs → Among b (f x)
      → Among b (flat_map f xs)
  among-flat_map f [] x b m n = absurd m
  among-flat_map f (y ∷ ys) x b m n =
      ⊎_elim (λ e. among-append_left (f y) (flat_map f ys) b (subst (λ z. Among b (f z)) e n))
      (λ l. among-append_right (f y) (flat_map f ys) b (among-flat_map f ys x b l n)) m

  pub among-from_flat_map : (f : A → List B) (xs : List A) (b : B) → Among b (flat_map f xs)
      → (x : A) × Among x xs × Among b (f x)
  among-from_flat_map f [] b m = absurd m
  among-from_flat_map f (x ∷ xs) b m = ⊎_elim (λ here. (x, inl refl, here))
      (λ later. let t : (x : A) × Among x xs × Among b (f x) = among-from_flat_map f xs b later in (t.0, inr t.1, t.2))
      (among-append (f x) (flat_map f xs) b m)

-- a number among numbers
pub among_numbers : (numbers : List ℕ) (number : ℕ) → is_among nat_eq number numbers ≡ true → Among number numbers
among_numbers [] number h = absurd (true≢false (sym h))
among_numbers (first ∷ rest) number h =
    ⊎_elim (λ e. inl (eqb-true number first e)) (λ later. inr (among_numbers rest number later))
    (or_cases (nat_eq number first) (is_among nat_eq number rest) h)

pub is_among_numbers : (numbers : List ℕ) (number : ℕ) → Among number numbers → is_among nat_eq number numbers ≡ true
is_among_numbers [] number m = absurd m
is_among_numbers (first ∷ rest) number m = ⊎_elim (λ e. head_first first number rest e)
    (λ later. later_first (nat_eq number first) (is_among_numbers rest number later)) m
  where
    head_first : (other one : ℕ) (others : List ℕ) → one ≡ other → is_among nat_eq one (other ∷ others) ≡ true
    head_first other one others e = ap (λ b. b || is_among nat_eq one others) (eq-eqb one other e)

    later_first : (b : Bool) → is_among nat_eq number rest ≡ true → (b || is_among nat_eq number rest) ≡ true
    later_first true e = refl
    later_first false e = e

pub head_among : (number other : ℕ) (rest : List ℕ) → number ≡ other → is_among nat_eq number (other ∷ rest) ≡ true
head_among number other rest same = ap (λ b. b || is_among nat_eq number rest) (eq-eqb number other same)

pub tail_among : (number other : ℕ) (rest : List ℕ) → is_among nat_eq number rest ≡ true
    → is_among nat_eq number (other ∷ rest) ≡ true
tail_among number other rest later = by (nat_eq number other)
  where
    by : (b : Bool) → (b || is_among nat_eq number rest) ≡ true
    by true = refl
    by false = later

pub among_cases : (number other : ℕ) (rest : List ℕ) → is_among nat_eq number (other ∷ rest) ≡ true
    → (number ≡ other) ⊎ (is_among nat_eq number rest ≡ true)
among_cases number other rest h =
    ⊎_elim (λ e. inl (eqb-true number other e)) inr (or_cases (nat_eq number other) (is_among nat_eq number rest) h)

-- Chains
module _ {A : Type 0} (next : A → Option A) where
  pub chain_ends : (n : ℕ) (a : A) → next a ≡ None → chain (suc n) next a ≡ a ∷ []
  chain_ends n a e = ap (λ (found : Option A). elim found [ None ↦ a ∷ [] | Some b ↦ a ∷ chain n next b ]) e

  pub chain_goes_on : (n : ℕ) (a b : A) → next a ≡ Some b → chain (suc n) next a ≡ a ∷ chain n next b
  chain_goes_on n a b e = ap (λ (found : Option A). elim found [ None ↦ a ∷ [] | Some b ↦ a ∷ chain n next b ]) e

  -- a chain begins with its start, so its last is the same whatever stands before
  pub last_of_chain : (n : ℕ) (a d : A) → last_or d (chain n next a) ≡ last_or a (chain n next a)
  last_of_chain zero a d = refl
  last_of_chain (suc n) a d = by (next a) refl
    where
      by : (found : Option A) → next a ≡ found → last_or d (chain (suc n) next a) ≡ last_or a (chain (suc n) next a)
      by None e = ap (last_or d) (chain_ends n a e) ∙ sym (ap (last_or a) (chain_ends n a e))
      by (Some b) e = ap (last_or d) (chain_goes_on n a b e) ∙ sym (ap (last_or a) (chain_goes_on n a b e))

-- Tests over lists that are changed
module _ {A : Type 0} where
  pub none-filter : (q p : A → Bool) (xs : List A) → list_any q xs ≡ false → list_any q (filter p xs) ≡ false
  none-filter q p [] h = refl
  none-filter q p (y ∷ ys) h = by (p y) refl (or_parts (q y) (list_any q ys) h).0
      (none-filter q p ys (or_parts (q y) (list_any q ys) h).1)
    where
      by : (b : Bool) → p y ≡ b → q y ≡ false → list_any q (filter p ys) ≡ false
          → list_any q (filter p (y ∷ ys)) ≡ false
      by true e here later = ap (list_any q) (filter_here p y ys e) ∙ ap (λ b. b || list_any q (filter p ys)) here
          ∙ later
      by false e here later = ap (list_any q) (filter_skip p y ys e) ∙ later

  pub filter_none : (p : A → Bool) (xs : List A) → list_any p xs ≡ false → filter p xs ≡ []
  filter_none p [] h = refl
  filter_none p (y ∷ ys) h =
      let parts : (p y ≡ false) × (list_any p ys ≡ false) = or_parts (p y) (list_any p ys) h in
      filter_skip p y ys parts.0 ∙ filter_none p ys parts.1

  pub pair-filter : (test : A → A → Bool) (p : A → Bool) (xs : List A) → any_pair test xs ≡ false
      → any_pair test (filter p xs) ≡ false
  pair-filter test p [] h = refl
  pair-filter test p (y ∷ ys) h =
      by (p y) refl (none-filter (test y) p ys (or_parts (list_any (test y) ys) (any_pair test ys) h).0)
      (pair-filter test p ys (or_parts (list_any (test y) ys) (any_pair test ys) h).1)
    where
      by : (b : Bool) → p y ≡ b → list_any (test y) (filter p ys) ≡ false → any_pair test (filter p ys) ≡ false
          → any_pair test (filter p (y ∷ ys)) ≡ false
      by true e here later = ap (any_pair test) (filter_here p y ys e)
          ∙ ap (λ b. b || any_pair test (filter p ys)) here ∙ later
      by false e here later = ap (any_pair test) (filter_skip p y ys e) ∙ later

  pub all-filter : (q p : A → Bool) (xs : List A) → list_all q xs ≡ true → list_all q (filter p xs) ≡ true
  all-filter q p [] h = refl
  all-filter q p (y ∷ ys) h = by (p y) refl (and_parts (q y) (list_all q ys) h).0
      (all-filter q p ys (and_parts (q y) (list_all q ys) h).1)
    where
      by : (b : Bool) → p y ≡ b → q y ≡ true → list_all q (filter p ys) ≡ true → list_all q (filter p (y ∷ ys)) ≡ true
      by true e here later = ap (list_all q) (filter_here p y ys e) ∙ ap (λ b. b && list_all q (filter p ys)) here
          ∙ later
      by false e here later = ap (list_all q) (filter_skip p y ys e) ∙ later

  pub list_all_from_among : (q : A → Bool) (xs : List A) → ((x : A) → Among x xs → q x ≡ true) → list_all q xs ≡ true
  list_all_from_among q [] h = refl
  list_all_from_among q (y ∷ ys) h =
      ap (λ b. b && list_all q ys) (h y (inl refl)) ∙ list_all_from_among q ys (λ x m. h x (inr m))

  pub none_from_among : (q : A → Bool) (xs : List A) → ((x : A) → Among x xs → q x ≡ false) → list_any q xs ≡ false
  none_from_among q [] h = refl
  none_from_among q (y ∷ ys) h =
      ap (λ b. b || list_any q ys) (h y (inl refl)) ∙ none_from_among q ys (λ x m. h x (inr m))

module _ {A B : Type 0} where
  pub all-map : (q : B → Bool) {p : A → Bool} (f : A → B) → ((x : A) → p x ≡ true → q (f x) ≡ true) → (xs : List A)
      → list_all p xs ≡ true → list_all q (map f xs) ≡ true
  all-map q f h [] e = refl
  all-map q {p = p} f h (y ∷ ys) e =
      let parts : (p y ≡ true) × (list_all p ys ≡ true) = and_parts (p y) (list_all p ys) e in
      ap (λ b. b && list_all q (map f ys)) (h y parts.0) ∙ all-map q f h ys parts.1

  -- pairs that are changed
  pub pair-map : (test : A → A → Bool) (later : B → B → Bool) (f : A → B) (xs : List A)
      → ((a b : A) → Among a xs → Among b xs → test a b ≡ false → later (f a) (f b) ≡ false) → any_pair test xs ≡ false
      → any_pair later (map f xs) ≡ false
  pair-map test later f [] h e = refl
  pair-map test later f (y ∷ ys) h e =
      let parts : (list_any (test y) ys ≡ false) × (any_pair test ys ≡ false) =
      or_parts (list_any (test y) ys) (any_pair test ys) e in
      ap (λ b. b || any_pair later (map f ys)) (none_from_among (later (f y)) (map f ys) (λ b m.
      let from = among-from_map f ys b m in
      ap (later (f y)) from.2 ∙ h y from.0 (inl refl) (inr from.1) (none_among (test y) ys parts.0 from.0 from.1)))
      ∙ pair-map test later f ys (λ a b m n. h a b (inr m) (inr n)) parts.1

-- a test that nothing passes is passed by nothing in a list
pub list_any-never : {A : Type 0} (list : List A) → list_any (λ a. false) list ≡ false
list_any-never [] = refl
list_any-never (a ∷ rest) = list_any-never rest

-- Lists that are mapped and folded
module _ {A B : Type 0} where
  -- functions that agree on a list map it to the same list
  pub map_alike : (f g : A → B) (xs : List A) → ((x : A) → Among x xs → f x ≡ g x) → map f xs ≡ map g xs
  map_alike f g [] h = refl
  map_alike f g (y ∷ ys) h =
      ap (λ x. x ∷ map f ys) (h y (inl refl)) ∙ ap (λ rest. g y ∷ rest) (map_alike f g ys (λ x m. h x (inr m)))

  -- a list that is mapped twice is mapped by one function after the other
  pub map_twice : {C : Type 0} (f : B → C) (g : A → B) (xs : List A) → map f (map g xs) ≡ map (λ x. f (g x)) xs
  map_twice f g [] = refl
  map_twice f g (y ∷ ys) = ap (λ rest. f (g y) ∷ rest) (map_twice f g ys)

  -- a fold over a list with one element more at its end takes one step more
  pub folded-snoc : (add : B → A → B) (b : B) (list : List A) (a : A)
      → folded add b (list ++ a ∷ []) ≡ add (folded add b list) a
  folded-snoc add b [] a = refl
  folded-snoc add b (first ∷ list) a = folded-snoc add (add b first) list a
