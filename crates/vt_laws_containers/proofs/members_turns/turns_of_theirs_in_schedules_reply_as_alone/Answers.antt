use Rattle.vt_laws_containers.proofs.members_turns.InSchedules.{sealed_sets_reply_as_if_alone, sealed_sets_stand_so_in_turn}
use Rattle.vt_laws_containers.proofs.members_turns.turns_of_theirs_in_schedules_reply_as_alone.Goals as goal

pub returns-clause-as_if_alone : goal.returns-clause-as_if_alone
returns-clause-as_if_alone c = sealed_sets_reply_as_if_alone

pub returns-clause-after_lines : goal.returns-clause-after_lines
returns-clause-after_lines c = sealed_sets_stand_so_in_turn
