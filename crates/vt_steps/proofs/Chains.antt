-- A chain of steps, from its start on.
use Rattle.std.proofs.Common.{◌≡◌, ◌<◌, ◌+◌, ◌-◌, ℕ, zero, suc, Option, None, Some, ◌∷◌, [], refl, sym, ap, ◌∙◌, arith}
use Rattle.vt_spec.proofs.Common.{chain, last_or}

module _ {A : Type 0} (next : A → Option A) where
  goes : (most : ℕ) (a b : A) → next a ≡ Some b → chain (suc most) next a ≡ a ∷ chain most next b
  goes most a b e = ap (λ step. elim step [ None ↦ a ∷ [] | Some b ↦ a ∷ chain most next b ]) e

  stops : (most : ℕ) (a : A) → next a ≡ None → chain (suc most) next a ≡ a ∷ []
  stops most a e = ap (λ step. elim step [ None ↦ a ∷ [] | Some b ↦ a ∷ chain most next b ]) e

  pub chain-goes : (count turn : ℕ) (a b : A) → turn < count → next a ≡ Some b
      → chain (count - turn) next a ≡ a ∷ chain (count - (turn + 1)) next b
  chain-goes count turn a b below e =
      let more : count - turn ≡ suc (count - (turn + 1)) = omega arith in
      ap (λ most. chain most next a) more ∙ goes (count - (turn + 1)) a b e

  pub chain-stops : (count turn : ℕ) (a : A) → turn < count → next a ≡ None → chain (count - turn) next a ≡ a ∷ []
  chain-stops count turn a below e =
      let more : count - turn ≡ suc (count - (turn + 1)) = omega arith in
      ap (λ most. chain most next a) more ∙ stops (count - (turn + 1)) a e

  -- the last element, whatever stands for it where there is none
  last-chain : (most : ℕ) (a x y : A) → last_or x (chain most next a) ≡ last_or y (chain most next a)
  last-chain zero a x y = refl
  last-chain (suc most) a x y = by (next a)
    where
      by : (step : Option A) → last_or x (elim step [ None ↦ a ∷ [] | Some b ↦ a ∷ chain most next b ])
          ≡ last_or y (elim step [ None ↦ a ∷ [] | Some b ↦ a ∷ chain most next b ])
      by None = refl
      by (Some b) = refl

  pub last-goes : (count turn : ℕ) (a b : A) → turn < count → next a ≡ Some b
      → last_or b (chain (count - (turn + 1)) next b) ≡ last_or a (chain (count - turn) next a)
  last-goes count turn a b below e =
      last-chain (count - (turn + 1)) b b a ∙ ap (last_or a) (sym (chain-goes count turn a b below e))
