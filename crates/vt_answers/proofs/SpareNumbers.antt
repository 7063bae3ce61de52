-- Numbers for a line that makes nothing: half of those that are never given out.
use Rattle.std.proofs.Common.{◌≡◌, ◌≢◌, refl, sym, ap, subst, ◌∙◌, true≢false, ℕ, ◌==◌, ◌+◌, ◌*◌, ◌/◌, ◌%◌, Bool, true, false, cond, not, arith, eq-eqb, ne_eqb, eqb-true}
use Rattle.vt_spec.proofs.Common.{World}
use Rattle.vt_laws_rules.specs.Numbers.{Allotment, KeepsTo, Lot, is_in_hand_lot, is_kept_lot}
use Rattle.vt_laws_rules.specs.Numbers.Lot.{Kept, LeftOver, New}
use Rattle.vt_laws_rules.proofs.numbers.Supports.{opening_keeps_to_four}
use Rattle.vt_laws_trees.specs.Runs.Handed.{may_be_given}
use Rattle.vt_laws_trees.proofs.runs.handed.Counts.{same_new}
use Rattle.vt_answers.specs.Ends.{HasNumbers}
use Rattle.vt_answers.specs.Numbers.{IsOpened}

-- what becomes of a number: those that are never given out are new and left over in turn
abbrev choose : Bool → Bool → ℕ → Lot
choose new left number = cond new (New (number / 8)) (cond left (LeftOver (number / 8)) Kept)

abbrev lot : ℕ → Lot
lot number = choose (number % 8 == 3) (number % 8 == 7) number

lot_at : (number : ℕ) (new left : Bool) → (number % 8 == 3) ≡ new → (number % 8 == 7) ≡ left
    → lot number ≡ choose new left number
lot_at number new left first second = λ i. choose (first i) (second i) number

new_lot : (k : ℕ) → lot (8 * k + 3) ≡ New k
new_lot k =
    let rest : (8 * k + 3) % 8 ≡ 3 = omega arith in
    let place : (8 * k + 3) / 8 ≡ k = omega arith in
    lot_at (8 * k + 3) true _ (eq-eqb ((8 * k + 3) % 8) 3 rest) refl ∙ ap New place

left_lot : (k : ℕ) → lot (8 * k + 7) ≡ LeftOver k
left_lot k =
    let rest : (8 * k + 7) % 8 ≡ 7 = omega arith in
    let place : (8 * k + 7) / 8 ≡ k = omega arith in
    lot_at (8 * k + 7) false true (ne_eqb ((8 * k + 7) % 8) 3 (λ e. absurd (omega arith)))
    (eq-eqb ((8 * k + 7) % 8) 7 rest) ∙ ap LeftOver place

same_left : (a b : ℕ) → LeftOver a ≡ LeftOver b → a ≡ b
same_left a b e = cc

lot_new : (number k : ℕ) → lot number ≡ New k → 8 * k + 3 ≡ number
lot_new number k = by (number % 8 == 3) (number % 8 == 7) refl
  where
    by : (new left : Bool) → (number % 8 == 3) ≡ new → choose new left number ≡ New k → 8 * k + 3 ≡ number
    by true left is e =
        let rest : number % 8 ≡ 3 = eqb-true (number % 8) 3 is in
        let here : number / 8 ≡ k = same_new (number / 8) k e in
        omega arith
    by false true is e = cc
    by false false is e = cc

lot_left : (number k : ℕ) → lot number ≡ LeftOver k → 8 * k + 7 ≡ number
lot_left number k = by (number % 8 == 3) (number % 8 == 7) refl
  where
    by : (new left : Bool) → (number % 8 == 7) ≡ left → choose new left number ≡ LeftOver k → 8 * k + 7 ≡ number
    by true left is e = cc
    by false true is e =
        let rest : number % 8 ≡ 7 = eqb-true (number % 8) 7 is in
        let here : number / 8 ≡ k = same_left (number / 8) k e in
        omega arith
    by false false is e = cc

abbrev spare : Allotment
spare = record {
  lot = lot;
  new = λ k. 8 * k + 3;
  left_over = λ k. 8 * k + 7;
  new_lot = new_lot;
  left_over_lot = left_lot;
  lot_new = lot_new;
  lot_left_over = lot_left;
}

-- what may be given is kept,
given_is_kept : (number : ℕ) → may_be_given number ≡ true → lot number ≡ Kept
given_is_kept number given = by (number % 8 == 3) (number % 8 == 7) refl refl
  where
    never : number % 4 ≡ 3 → true ≡ false
    never third = sym given ∙ ap not (eq-eqb (number % 4) 3 third)

    by : (new left : Bool) → (number % 8 == 3) ≡ new → (number % 8 == 7) ≡ left → choose new left number ≡ Kept
    by true left new other =
        let rest : number % 8 ≡ 3 = eqb-true (number % 8) 3 new in absurd (true≢false (never (omega arith)))
    by false true new left =
        let rest : number % 8 ≡ 7 = eqb-true (number % 8) 7 left in absurd (true≢false (never (omega arith)))
    by false false new left = refl

-- and nothing else
kept_may_be_given : (number : ℕ) → is_kept_lot (lot number) ≡ true → may_be_given number ≡ true
kept_may_be_given number = by (number % 8 == 3) (number % 8 == 7) refl refl
  where
    apart : (a b : ℕ) → (a == b) ≡ false → a ≢ b
    apart a b other e = true≢false (sym (eq-eqb a b e) ∙ other)

    by : (new left : Bool) → (number % 8 == 3) ≡ new → (number % 8 == 7) ≡ left
        → is_kept_lot (choose new left number) ≡ true → may_be_given number ≡ true
    by true left new other kept = absurd (true≢false (sym kept))
    by false true new left kept = absurd (true≢false (sym kept))
    by false false new left kept =
        let third : number % 8 ≢ 3 = apart (number % 8) 3 new in
        let seventh : number % 8 ≢ 7 = apart (number % 8) 7 left in
        ap not (ne_eqb (number % 4) 3 (λ e. absurd (omega arith)))

-- A world that keeps to what may be given has numbers for what is made next,
pub numbers_kept : (world : World ℕ) → KeepsTo may_be_given world → HasNumbers world
numbers_kept world keeps = (
  spare,
  record {
    serves = record {
      from_hand = kept_may_be_given;
      keeps = λ renaming leaves.
          keeps renaming (λ number given. leaves number (ap is_kept_lot (given_is_kept number given)));
    };
    stays = λ number given. ap is_in_hand_lot (given_is_kept number given);
  },
)

-- so has the opening world
pub numbers_opened : (world : World ℕ) → IsOpened world → HasNumbers world
numbers_opened world opened =
    let given = opened.1.given in
    numbers_kept world (subst (KeepsTo may_be_given) (sym opened.2)
    (opening_keeps_to_four may_be_given opened.0 (given 0 (omega arith)) (given 1 (omega arith)) (given 2 (omega arith))
    (given 3 (omega arith))))
