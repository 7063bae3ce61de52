-- The numbers that a script hands to its next line are not in use.
use Rattle.std.proofs.Common.{◌≡◌, sym, subst, ◌∙◌, ℕ, suc, nat_eq, nat_le, ◌≤◌, Bool, true, List, Some, arith}
use Rattle.vt_spec.proofs.Common.{Grammar, Serves, World, first_world, line_step, nat_tests, numbers_for, step_world}
use Rattle.vt_laws_rules.specs.Numbers.{KeepsTo}
use Rattle.vt_laws_rules.proofs.numbers.Rows.{row, row-spread, row_first, spread_for}
use Rattle.vt_laws_rules.proofs.numbers.Stages.{stage, stage_keeps}
use Rattle.vt_laws_rules.proofs.numbers.Supports.{lines_keep_to_numbers, opening_keeps_to_four}
use Rattle.vt_laws_rules.proofs.numbers.Texts.{room_serves}

-- the number is one of the opening world, or of those that are handed to the lines up to this one
abbrev is_handed_until : ℕ → ℕ → Bool
is_handed_until last number = nat_le (row number) last

-- a world has no numbers but those of the opening world and those that the lines up to this one were handed
abbrev pub HasNumbersUntil : ℕ → World ℕ → Type 0
HasNumbersUntil last world = KeepsTo (is_handed_until last) world

-- so has the opening world, before the first line
pub opening_has_first_numbers : HasNumbersUntil 0 first_world
opening_has_first_numbers =
    opening_keeps_to_four (is_handed_until 0) (λ place. place) (first 0 (omega arith)) (first 1 (omega arith))
    (first 2 (omega arith)) (first 3 (omega arith))
  where
    first : (number : ℕ) → suc number ≤ 4 → is_handed_until 0 number ≡ true
    first number low = cc (row_first number low)

-- a later line has been handed more
pub more_are_handed : (last number : ℕ) → is_handed_until last number ≡ true → is_handed_until (suc last) number ≡ true
more_are_handed last number is = grind (arith, nat_tests)

-- what a line is handed stands in its row
handed_in_row : (last place : ℕ) → is_handed_until (suc last) (numbers_for (suc last) place) ≡ true
handed_in_row last place = cc (spread_for last place, row-spread (suc last) place, itself (suc last))
  where
    itself : (number : ℕ) → nat_le number number ≡ true
    itself number = grind (arith, nat_tests)

-- after the next line the world has the numbers of that line too
pub line_adds_its_numbers : (grammar : Grammar) (world : World ℕ) (last : ℕ) (line : List ℕ)
    → HasNumbersUntil last world → HasNumbersUntil (suc last)
    (step_world world (line_step nat_eq grammar world line (Some (numbers_for (suc last)))))
line_adds_its_numbers grammar world last line has =
    lines_keep_to_numbers _ grammar _ world line
    (λ renaming leaves. has renaming (λ number is. leaves number (more_are_handed last number is))) (handed_in_row last)

-- what the next line is handed is not in use
pub next_numbers_serve : (world : World ℕ) (last : ℕ) → HasNumbersUntil last world
    → Serves nat_eq world (numbers_for (suc last))
unfolding stage
next_numbers_serve world last has = subst (Serves nat_eq world) (sym (λ i place. spread_for last place i))
    (room_serves (is_handed_until last) world (stage last (is_handed_until last) early) (record {
      from_hand = λ number is. sym (stage_keeps last (is_handed_until last) early number) ∙ is;
      keeps = λ renaming leaves. has renaming (λ number is.
          leaves number (stage_keeps last (is_handed_until last) early number ∙ is));
    }))
  where
    early : (number : ℕ) → is_handed_until last number ≡ true → row number ≤ last
    early number is = grind (arith, nat_tests)
