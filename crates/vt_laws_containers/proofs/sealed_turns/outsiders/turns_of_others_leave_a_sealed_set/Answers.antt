use Rattle.vt_laws_containers.proofs.sealed_turns.outsiders.Turned.{outsiders_turns_leave_a_sealed_set, outsiders_turns_leave_it_sealed_in_turn}
use Rattle.vt_laws_containers.proofs.sealed_turns.outsiders.turns_of_others_leave_a_sealed_set.Goals as goal

pub returns-clause-turn : goal.returns-clause-turn
returns-clause-turn c = outsiders_turns_leave_a_sealed_set

pub returns-clause-in_turn : goal.returns-clause-in_turn
returns-clause-in_turn c = outsiders_turns_leave_it_sealed_in_turn
