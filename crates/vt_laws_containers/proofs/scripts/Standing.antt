-- After the lines of a script, the world has all invariants, and no number of a later line.
use Rattle.std.proofs.Common.{refl, subst, ℕ, nat_eq, List, [], ◌∷◌, Some, length, ◌+◌, ◌≤◌, arith, le-ltb}
use Rattle.vt_spec.proofs.Common.{Grammar, IsWorld, World, first_world, line_step, numbers_for, step_world}
use Rattle.vt_spec.specs.Machine.Run.{world_from}
use Rattle.vt_laws_containers.proofs.Common.{first_four, opening_keeps_to_four}
use Rattle.vt_laws_worlds.proofs.opening.OpeningWorld.{opening_is_a_world}
use Rattle.vt_laws_worlds.proofs.overlay_permits.worlds.EveryScript.{line_keeps}
use Rattle.vt_laws_containers.specs.Scripts.{HasEarlierNumbers, SealedSetsStandSo}
use Rattle.vt_laws_containers.proofs.scripts.LineNumbers.{line_numbers_left, serves_line}

lines_lead : (grammar : Grammar) (number : ℕ) (world : World ℕ) (lines : List (List ℕ)) → IsWorld nat_eq world
    → 1 ≤ number → HasEarlierNumbers number world → IsWorld nat_eq (world_from grammar world number lines)
    × HasEarlierNumbers (number + length lines) (world_from grammar world number lines)
lines_lead grammar number world [] is counted has = (is, subst (λ n. HasEarlierNumbers n world) (omega arith) has)
lines_lead grammar number world (line ∷ lines) is counted has =
    let after : World ℕ = step_world world (line_step nat_eq grammar world line (Some (numbers_for number))) in
    let rest = lines_lead grammar (number + 1) after lines (line_keeps _ _ _ world line _ is
    (serves_line _ world counted has)) (omega (arith, counted)) (line_numbers_left _ _ world line counted has) in
    (rest.0, subst (λ n. HasEarlierNumbers n (world_from grammar after (number + 1) lines)) (omega arith) rest.1)

-- The opening world has four numbers, which are handed to no line.
pub first_numbers : HasEarlierNumbers 1 first_world
first_numbers = record {
  named = first_four;
  keeps = opening_keeps_to_four first_four (λ place. place) refl refl refl refl;
  later = λ line place less. le-ltb _ 4 (at_least _ line);
}
  where
    at_least : (sum line : ℕ) → 4 ≤ 4 + sum + line
    at_least sum line = omega arith

pub sealed_sets_stand_so : SealedSetsStandSo
sealed_sets_stand_so grammar lines names there sealed_off =
    let leads = lines_lead grammar 1 first_world lines (opening_is_a_world (λ place. place) (λ j k e. e)).0
    (omega arith) first_numbers in
    record { is = leads.0; there = there; sealed_off = sealed_off; counted = omega arith; numbers = leads.1 }
