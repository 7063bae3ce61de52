use Rattle.vt_laws_containers.proofs.same_sets.turns.SealedToo.{others_played_leave_it_sealed, same_scheds_have_it_sealed, their_turns_played_go_as_in_the_part}
use Rattle.vt_laws_containers.proofs.same_sets.turns.sealed_sets_are_the_same_in_turns.Goals as goal

pub returns-clause-states : goal.returns-clause-states
returns-clause-states c = same_scheds_have_it_sealed

pub returns-clause-others : goal.returns-clause-others
returns-clause-others c = others_played_leave_it_sealed

pub returns-clause-theirs : goal.returns-clause-theirs
returns-clause-theirs c = their_turns_played_go_as_in_the_part
