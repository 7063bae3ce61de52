use Rattle.vt_laws_containers.proofs.members_turns.Beside.{outsiders_change_no_turn_of_theirs}
use Rattle.vt_laws_containers.proofs.members_turns.turns_of_others_change_no_turn_of_theirs.Goals as goal

pub returns : goal.returns
returns c = record { beside = outsiders_change_no_turn_of_theirs }
