-- The numbers that a line is handed are not in use, and after its call the world has no number of a later line.
use Rattle.std.proofs.Common.{◌≡◌, sym, ap, ◌∙◌, ℕ, zero, suc, nat_eq, Bool, false, true≢false, List, Some, ◌+◌, ◌≤◌, ◌||◌, eq-eqb, eqb-true, ne_eqb, arith}
use Rattle.vt_spec.proofs.Common.{Call, Grammar, Serves, TaskName, World, common_steps, false_from_ne_true, line_step, numbers_for, or_left, or_right, policy, step_world}
use Rattle.vt_laws_turns.proofs.holds.Scripts.{row_of}
use Rattle.vt_laws_containers.proofs.Common.{IsSuppliedFrom, KeepsTo, LeavesOutTwo, calls_keep_to_numbers, lines_keep_to_numbers, used_numbers_are_named}
use Rattle.vt_laws_rules.proofs.numbers.Rows.{col, col-spread, row, spread_for}
use Rattle.vt_laws_containers.specs.Scripts.{HasEarlierNumbers}

col_of : (line place : ℕ) → col (numbers_for (suc line) place) ≡ place
col_of line place = ap col (spread_for line place) ∙ col-spread (suc line) place

module _ (line : ℕ) (world : World ℕ) (has : HasEarlierNumbers (suc line) world) where
  two_left : LeavesOutTwo has.named
  two_left = (
    numbers_for (suc line) 0,
    numbers_for (suc line) 1,
    λ same. differ _ _ (col_of line 0) (col_of line 1) (ap col same),
    has.later (suc line) 0 (omega arith),
    has.later (suc line) 1 (omega arith),
  )
    where
      differ : (a b : ℕ) → a ≡ 0 → b ≡ 1 → a ≡ b → ⊥
      differ a b e f g = omega (arith, e, f, g)

  serves_here : Serves nat_eq world (numbers_for (suc line))
  serves_here = record {
    unused = λ place. false_from_ne_true _ (λ used. true≢false
        (sym (used_numbers_are_named has.named world has.keeps two_left (numbers_for (suc line) place) used)
        ∙ has.later (suc line) place (omega arith)));
    apart = λ j k e. cc (col_of line j, eqb-true _ _ e, col_of line k);
  }

  abbrev named_now : ℕ → Bool
  named_now number = has.named number || nat_eq (row number) (suc line)

  -- a world that keeps to all numbers to which this world keeps, if those of the line are among them
  row_added : (after : World ℕ)
      → ((named : ℕ → Bool) → KeepsTo named world → IsSuppliedFrom named (numbers_for (suc line)) → KeepsTo named after)
      → HasEarlierNumbers (suc line + 1) after
  row_added after keeps = record {
    named = named_now;
    keeps = keeps _ (λ renaming leaves. has.keeps renaming
        (λ number is. leaves _ (or_left (has.named number) (nat_eq (row number) (suc line)) is)))
        (λ place. or_right _ _ (eq-eqb _ _ (row_of line place)));
    later = λ other place less. by other place less;
  }
    where
      by : (other place : ℕ) → suc line + 1 ≤ other → named_now (numbers_for other place) ≡ false
      by zero place less = absurd (omega (arith, less))
      by (suc other) place less = grind (arith, common_steps, row_of, ne_eqb)

  numbers_left_here : (name : TaskName) (call : Call)
      → HasEarlierNumbers (suc line + 1) (policy nat_eq (numbers_for (suc line)) world name call).world
  numbers_left_here name call = row_added (policy nat_eq (numbers_for (suc line)) world name call).world
      (λ named keeps supplied. calls_keep_to_numbers named (numbers_for (suc line)) world name call keeps supplied)

  line_numbers_here : (grammar : Grammar) (text : List ℕ) → HasEarlierNumbers (suc line + 1)
      (step_world world (line_step nat_eq grammar world text (Some (numbers_for (suc line)))))
  line_numbers_here grammar text = row_added _
      (λ named keeps supplied. lines_keep_to_numbers named grammar (numbers_for (suc line)) world text keeps supplied)

-- Lines are counted from 1.
pub serves_line : (number : ℕ) (world : World ℕ) → 1 ≤ number → HasEarlierNumbers number world
    → Serves nat_eq world (numbers_for number)
serves_line zero world counted has = absurd (omega (arith, counted))
serves_line (suc line) world counted has = serves_here line world has

pub numbers_left : (number : ℕ) (world : World ℕ) (name : TaskName) (call : Call) → 1 ≤ number
    → HasEarlierNumbers number world
    → HasEarlierNumbers (number + 1) (policy nat_eq (numbers_for number) world name call).world
numbers_left zero world name call counted has = absurd (omega (arith, counted))
numbers_left (suc line) world name call counted has = numbers_left_here line world has name call

pub line_numbers_left : (number : ℕ) (grammar : Grammar) (world : World ℕ) (text : List ℕ) → 1 ≤ number
    → HasEarlierNumbers number world → HasEarlierNumbers (number + 1)
    (step_world world (line_step nat_eq grammar world text (Some (numbers_for number))))
line_numbers_left zero grammar world text counted has = absurd (omega (arith, counted))
line_numbers_left (suc line) grammar world text counted has = line_numbers_here line world has grammar text

pub numbers_passed : (number : ℕ) (world : World ℕ) → HasEarlierNumbers number world
    → HasEarlierNumbers (number + 1) world
numbers_passed number world has = grind (arith, common_steps)
