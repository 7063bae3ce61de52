use Rattle.vt_laws_members.proofs.judging.Common.{members_are_judged_alike, members_are_judged_by_their_part, members_see_alike}
use Rattle.vt_laws_members.proofs.judging.a_call_of_theirs_is_judged_by_their_part.Goals as goal

pub returns-clause-seen : goal.returns-clause-seen
returns-clause-seen c = members_see_alike

pub returns-clause-judged : goal.returns-clause-judged
returns-clause-judged c = members_are_judged_alike

pub returns-clause-by_part : goal.returns-clause-by_part
returns-clause-by_part c = members_are_judged_by_their_part
