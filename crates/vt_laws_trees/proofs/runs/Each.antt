-- Two lists of which each two elements at one place stand in a relation.
use Rattle.std.proofs.Common.{arith, ◌≡◌, refl, subst, Bool, true, false, cond, ◌||◌, List, [], ◌∷◌, ◌++◌, map, filter, find, flat_map, Option, Some, None, unwrap_or}
use Rattle.vt_spec.proofs.Common.{common_steps, cons-rest, list_any, ⊤}
use Rattle.vt_spec.proofs.Options.{cons-first}

module _ {A B : Type 0} (R : A → B → Type 0) where
  abbrev pub Each : List A → List B → Type 0
  Each [] [] = ⊤
  Each [] (b ∷ others) = ⊥
  Each (a ∷ ones) [] = ⊥
  Each (a ∷ ones) (b ∷ others) = R a b × Each ones others

  abbrev pub IfAny : Option A → Option B → Type 0
  IfAny None None = ⊤
  IfAny None (Some b) = ⊥
  IfAny (Some a) None = ⊥
  IfAny (Some a) (Some b) = R a b

  -- one test, two choices that stand in the relation
  pub chosen : (test again : Bool) → test ≡ again → (a d : A) (b e : B) → R a b → R d e
      → R (cond test a d) (cond again b e)
  chosen test again same a d b e first second = subst (λ t. R (cond test a d) (cond t b e)) same (by test)
    where
      by : (t : Bool) → R (cond t a d) (cond t b e)
      by true = first
      by false = second

  pub each_append : (ones : List A) (others : List B) (more : List A) (again : List B) → Each ones others
      → Each more again → Each (ones ++ more) (others ++ again)
  each_append [] [] more again each rest = rest
  each_append [] (b ∷ others) more again each rest = absurd each
  each_append (a ∷ ones) [] more again each rest = absurd each
  each_append (a ∷ ones) (b ∷ others) more again each rest = (each.0, each_append ones others more again each.1 rest)

  module _ (p : A → Bool) (q : B → Bool) (alike : (a : A) (b : B) → R a b → p a ≡ q b) where
    pub each_any : (ones : List A) (others : List B) → Each ones others → list_any p ones ≡ list_any q others
    each_any [] [] each = refl
    each_any [] (b ∷ others) each = absurd each
    each_any (a ∷ ones) [] each = absurd each
    each_any (a ∷ ones) (b ∷ others) each = λ i. alike a b each.0 i || each_any ones others each.1 i

  module _ {C : Type 0} (f : A → C) (g : B → C) (alike : (a : A) (b : B) → R a b → f a ≡ g b) where
    pub each_to_one : (ones : List A) (others : List B) → Each ones others → map f ones ≡ map g others
    each_to_one [] [] each = refl
    each_to_one [] (b ∷ others) each = absurd each
    each_to_one (a ∷ ones) [] each = absurd each
    each_to_one (a ∷ ones) (b ∷ others) each = λ i. alike a b each.0 i ∷ each_to_one ones others each.1 i

  module _ {C : Type 0} (f : A → List C) (g : B → List C) (alike : (a : A) (b : B) → R a b → f a ≡ g b) where
    pub each_flat : (ones : List A) (others : List B) → Each ones others → flat_map f ones ≡ flat_map g others
    each_flat [] [] each = refl
    each_flat [] (b ∷ others) each = absurd each
    each_flat (a ∷ ones) [] each = absurd each
    each_flat (a ∷ ones) (b ∷ others) each = λ i. alike a b each.0 i ++ each_flat ones others each.1 i

module _ {A B C D : Type 0} (R : A → B → Type 0) (S : C → D → Type 0) (f : A → C) (g : B → D)
    (alike : (a : A) (b : B) → R a b → S (f a) (g b)) where
  pub each_map : (ones : List A) (others : List B) → Each R ones others → Each S (map f ones) (map g others)
  each_map [] [] each = tt
  each_map [] (b ∷ others) each = absurd each
  each_map (a ∷ ones) [] each = absurd each
  each_map (a ∷ ones) (b ∷ others) each = (alike a b each.0, each_map ones others each.1)

module _ {A B : Type 0} (R : A → B → Type 0) (p : A → Bool) (q : B → Bool)
    (alike : (a : A) (b : B) → R a b → p a ≡ q b) where
  pub each_filter : (ones : List A) (others : List B) → Each R ones others → Each R (filter p ones) (filter q others)
  each_filter [] [] each = tt
  each_filter [] (b ∷ others) each = absurd each
  each_filter (a ∷ ones) [] each = absurd each
  each_filter (a ∷ ones) (b ∷ others) each = grind (arith, common_steps, chosen, each_filter ones others each.1)

  pub each_find : (ones : List A) (others : List B) → Each R ones others → IfAny R (find p ones) (find q others)
  each_find [] [] each = tt
  each_find [] (b ∷ others) each = absurd each
  each_find (a ∷ ones) [] each = absurd each
  each_find (a ∷ ones) (b ∷ others) each = grind (arith, common_steps, chosen, each_find ones others each.1)

  pub each_found : (d : A) (e : B) → R d e → (ones : List A) (others : List B) → Each R ones others
      → R (unwrap_or (find p ones) d) (unwrap_or (find q others) e)
  each_found d e none [] [] each = none
  each_found d e none [] (b ∷ others) each = absurd each
  each_found d e none (a ∷ ones) [] each = absurd each
  each_found d e none (a ∷ ones) (b ∷ others) each =
      grind (arith, common_steps, chosen, each_found d e none ones others each.1)

-- lists that are the same by what is told of each
module _ {A B C : Type 0} (f : A → C) (g : B → C) where
  abbrev pub Tell : A → B → Type 0
  Tell a b = f a ≡ g b

  pub each_told : (ones : List A) (others : List B) → map f ones ≡ map g others → Each Tell ones others
  each_told [] [] same = tt
  each_told [] (b ∷ others) same = cc
  each_told (a ∷ ones) [] same = cc
  each_told (a ∷ ones) (b ∷ others) same = (
    cons-first (f a) (g b) (map f ones) (map g others) same,
    each_told ones others (cons-rest (f a) (g b) (map f ones) (map g others) same),
  )

module _ {A : Type 0} (R : A → A → Type 0) where
  pub each_back : ((a b : A) → R a b → R b a) → (ones others : List A) → Each R ones others → Each R others ones
  each_back back [] [] each = tt
  each_back back [] (b ∷ others) each = absurd each
  each_back back (a ∷ ones) [] each = absurd each
  each_back back (a ∷ ones) (b ∷ others) each = (back a b each.0, each_back back ones others each.1)

  pub each_onward : ((a b c : A) → R a b → R b c → R a c) → (ones others lasts : List A) → Each R ones others
      → Each R others lasts → Each R ones lasts
  each_onward onward [] [] lasts each next = next
  each_onward onward [] (b ∷ others) lasts each next = absurd each
  each_onward onward (a ∷ ones) [] lasts each next = absurd each
  each_onward onward (a ∷ ones) (b ∷ others) [] each next = absurd next
  each_onward onward (a ∷ ones) (b ∷ others) (c ∷ lasts) each next =
      (onward a b c each.0 next.0, each_onward onward ones others lasts each.1 next.1)
