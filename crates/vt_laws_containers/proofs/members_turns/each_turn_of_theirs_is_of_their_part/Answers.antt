use Rattle.vt_laws_containers.proofs.members_turns.EachTurn.{each_turn_of_theirs_is_of_their_part}
use Rattle.vt_laws_containers.proofs.members_turns.each_turn_of_theirs_is_of_their_part.Goals as goal

pub returns : goal.returns
returns c = record { each = each_turn_of_theirs_is_of_their_part }
