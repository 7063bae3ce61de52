-- The end of a chain of steps.
use Rattle.std.proofs.Common.{◌≡◌, ◌<◌, ◌+◌, ◌-◌, ℕ, zero, suc, Option, None, Some, ◌∷◌, [], refl, sym, ap, ◌∙◌, arith}
use Rattle.vt_spec.proofs.Common.{chain, last_or}

module _ {A : Type 0} (next : A → Option A) where
  -- a chain begins with its start
  last-chain : (most : ℕ) (a x y : A) → last_or x (chain most next a) ≡ last_or y (chain most next a)
  last-chain zero a x y = refl
  last-chain (suc most) a x y = by (next a)
    where
      by : (step : Option A) → last_or x (elim step [ None ↦ a ∷ [] | Some b ↦ a ∷ chain most next b ])
          ≡ last_or y (elim step [ None ↦ a ∷ [] | Some b ↦ a ∷ chain most next b ])
      by None = refl
      by (Some b) = refl

  one-further : (most : ℕ) (a b : A) → next a ≡ Some b
      → last_or b (chain most next b) ≡ last_or a (chain (suc most) next a)
  one-further most a b e =
      last-chain most b b a ∙ ap (λ step. last_or a (elim step [ None ↦ a ∷ [] | Some b ↦ a ∷ chain most next b ]))
      (sym e)

  pub chain-further : (count turn : ℕ) (a b : A) → turn < count → next a ≡ Some b
      → last_or b (chain (count - (turn + 1)) next b) ≡ last_or a (chain (count - turn) next a)
  chain-further count turn a b below e =
      let more : suc (count - (turn + 1)) ≡ count - turn = omega arith in
      one-further (count - (turn + 1)) a b e ∙ ap (λ most. last_or a (chain most next a)) more
