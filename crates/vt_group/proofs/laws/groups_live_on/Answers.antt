use Rattle.vt_group.proofs.Living.{joining_keeps_groups, leaving_keeps_groups, slaves_keep_groups, starting_keeps_groups}
use Rattle.vt_group.proofs.laws.groups_live_on.Goals as goal

pub returns-clause-leave : goal.returns-clause-leave
returns-clause-leave c = leaving_keeps_groups

pub returns-clause-slave : goal.returns-clause-slave
returns-clause-slave c = slaves_keep_groups

pub returns-clause-join : goal.returns-clause-join
returns-clause-join c = joining_keeps_groups

pub returns-clause-start : goal.returns-clause-start
returns-clause-start c = starting_keeps_groups
