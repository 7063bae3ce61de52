use Rattle.vt_laws_containers.proofs.members_turns.InRounds.{others_leave_them_sealed, their_turns_leave_as_alone, their_turns_reply_as_alone}
use Rattle.vt_laws_containers.proofs.members_turns.turns_of_theirs_reply_as_alone.Goals as goal

pub returns-clause-alone : goal.returns-clause-alone
returns-clause-alone c = their_turns_reply_as_alone

pub returns-clause-left : goal.returns-clause-left
returns-clause-left c = their_turns_leave_as_alone

pub returns-clause-sealed : goal.returns-clause-sealed
returns-clause-sealed c = others_leave_them_sealed
