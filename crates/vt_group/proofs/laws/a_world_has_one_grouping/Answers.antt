use Rattle.vt_group.proofs.Showing.{has_one_grouping, shows_masters, shows_types}
use Rattle.vt_group.proofs.laws.a_world_has_one_grouping.Goals as goal

pub returns-clause-one : goal.returns-clause-one
returns-clause-one c = has_one_grouping

pub returns-clause-types : goal.returns-clause-types
returns-clause-types c = shows_types

pub returns-clause-masters : goal.returns-clause-masters
returns-clause-masters c = shows_masters
