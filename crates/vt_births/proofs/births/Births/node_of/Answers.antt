use Rattle.std.proofs.Common.{subst}
use Rattle.vt_births.specs.Births.{AreOneToOne}
use Rattle.vt_births.proofs.births.Births.node_of.Goals as goal

pub returns-clause-one_to_one : goal.returns-clause-one_to_one
returns-clause-one_to_one c = subst AreOneToOne c.self.view_is c.self.invariant.one_to_one
