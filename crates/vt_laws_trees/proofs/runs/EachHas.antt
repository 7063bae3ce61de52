-- What holds of one list holds of another, of which each two elements at one place stand in a relation.
use Rattle.std.proofs.Common.{◌≡◌, refl, Bool, ◌&&◌, ◌||◌, inl, inr, subst, sym, List, [], ◌∷◌, All}
use Rattle.vt_spec.proofs.Common.{All-cons, All-head, All-nil, All-tail, Among, any_pair, list_all}
use Rattle.vt_laws_trees.proofs.runs.Each.{Each, each_any}

module _ {A B : Type 0} (R : A → B → Type 0) where
  pub each_all : (p : A → Bool) (q : B → Bool) → ((a : A) (b : B) → R a b → p a ≡ q b)
      → (ones : List A) (others : List B) → Each R ones others → list_all p ones ≡ list_all q others
  each_all p q alike [] [] each = refl
  each_all p q alike [] (b ∷ others) each = absurd each
  each_all p q alike (a ∷ ones) [] each = absurd each
  each_all p q alike (a ∷ ones) (b ∷ others) each = λ i. alike a b each.0 i && each_all p q alike ones others each.1 i

  pub each_pair : (t : A → A → Bool) (u : B → B → Bool)
      → ((a : A) (b : B) (c : A) (d : B) → R a b → R c d → t a c ≡ u b d)
      → (ones : List A) (others : List B) → Each R ones others → any_pair t ones ≡ any_pair u others
  each_pair t u alike [] [] each = refl
  each_pair t u alike [] (b ∷ others) each = absurd each
  each_pair t u alike (a ∷ ones) [] each = absurd each
  each_pair t u alike (a ∷ ones) (b ∷ others) each = λ i.
      each_any R (t a) (u b) (λ c d r. alike a b c d each.0 r) ones others each.1 i
      || each_pair t u alike ones others each.1 i

  pub each_holds : (P : A → Type 0) (Q : B → Type 0) → ((a : A) (b : B) → R a b → P a → Q b)
      → (ones : List A) (others : List B) → Each R ones others → All P ones → All Q others
  each_holds P Q goes [] [] each all = All-nil Q
  each_holds P Q goes [] (b ∷ others) each all = absurd each
  each_holds P Q goes (a ∷ ones) [] each all = absurd each
  each_holds P Q goes (a ∷ ones) (b ∷ others) each all = All-cons Q b others (goes a b each.0 (All-head P a ones all))
      (each_holds P Q goes ones others each.1 (All-tail P a ones all))

  -- the one that stands at the place of another
  pub each_among : (ones : List A) (others : List B) → Each R ones others → (b : B) → Among b others
      → (a : A) × Among a ones × R a b
  each_among [] [] each b among = absurd among
  each_among [] (c ∷ others) each b among = absurd each
  each_among (a ∷ ones) [] each b among = absurd each
  each_among (a ∷ ones) (c ∷ others) each b (inl e) = (a, inl refl, subst (R a) (sym e) each.0)
  each_among (a ∷ ones) (c ∷ others) each b (inr among) =
      let rest = each_among ones others each.1 b among in
      (rest.0, inr rest.1, rest.2)
