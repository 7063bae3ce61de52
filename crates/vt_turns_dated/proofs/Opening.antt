-- The opening world has all invariants, and numbers for what is made next.
use Rattle.std.proofs.Common.{arith, ◌≡◌, ◌<◌, ◌+◌, refl, sym, ap, subst, ◌∙◌, ℕ, zero, suc, nat_eq, nat_lt, Bool, true, false, cond, ltb-true}
use Rattle.vt_spec.proofs.Common.{Fresh, IsWorld, World, opening}
use Rattle.vt_laws_worlds.proofs.opening.OpeningWorld.{opening_is_a_world}
use Rattle.vt_answers.proofs.SpareNumbers.{numbers_opened}
use Rattle.vt_answers.specs.Numbers.{IsOpened}
use Rattle.vt_turns.specs.Ends.{IsReady}

module _ (fresh : Fresh ℕ) (apart : (j k : ℕ) → j < 4 → k < 4 → fresh j ≡ fresh k → j ≡ k) where
  abbrev past : ℕ
  past = fresh 0 + fresh 1 + fresh 2 + fresh 3 + 1

  below : (k : ℕ) → k < 4 → fresh k < past
  below zero less = omega arith
  below (suc zero) less = omega arith
  below (suc (suc zero)) less = omega arith
  below (suc (suc (suc zero))) less = omega arith
  below (suc (suc (suc (suc k)))) less = absurd (omega (arith, less))

  -- the same four numbers, and then others, all of them apart
  abbrev more : Fresh ℕ
  more k = cond (nat_lt k 4) (fresh k) (past + k)

  more_apart : (j k : ℕ) → more j ≡ more k → j ≡ k
  more_apart j k e = by (nat_lt j 4) refl (nat_lt k 4) refl
    where
      same : (a b : Bool) → nat_lt j 4 ≡ a → nat_lt k 4 ≡ b → cond a (fresh j) (past + j) ≡ cond b (fresh k) (past + k)
      same a b f g = ap (λ c. cond c (fresh j) (past + j)) (sym f) ∙ e ∙ ap (λ c. cond c (fresh k) (past + k)) g

      by : (a : Bool) → nat_lt j 4 ≡ a → (b : Bool) → nat_lt k 4 ≡ b → j ≡ k
      by true f true g = apart j k (ltb-true j 4 f) (ltb-true k 4 g) (same true true f g)
      by true f false g =
          let less = below j (ltb-true j 4 f) in
          let is : fresh j ≡ past + k = same true false f g in
          absurd (omega (arith, less, is))
      by false f true g =
          let less = below k (ltb-true k 4 g) in
          let is : past + j ≡ fresh k = same false true f g in
          absurd (omega (arith, less, is))
      by false f false g =
          let is : past + j ≡ past + k = same false false f g in
          omega (arith, is)

  opened_is : IsWorld nat_eq (opening nat_eq fresh)
  opened_is = (opening_is_a_world more more_apart).0

pub opened_ready : (world : World ℕ) → IsOpened world → IsReady world
opened_ready world opened = (
  numbers_opened world opened,
  subst (IsWorld nat_eq) (sym opened.2) (opened_is opened.0 opened.1.apart),
)
