mod GroupsHandedOn
use Rattle.vt_laws_mounts.proofs.letting_go.ends.a_group_ends_with_its_last_member.Answers.GroupsHandedOn.{no_group_is_handed_on, one_group_is_handed_on}
use Rattle.vt_laws_mounts.proofs.letting_go.ends.a_group_ends_with_its_last_member.Goals as goal

pub returns-clause-one : goal.returns-clause-one
returns-clause-one c = one_group_is_handed_on

pub returns-clause-none : goal.returns-clause-none
returns-clause-none c = no_group_is_handed_on
