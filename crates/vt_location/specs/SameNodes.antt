-- Two nodes are one, as code compares them.
use Rattle.std.specs.Prelude.{Bool}
use Rattle.vt_location.specs.contracts.births.BirthPartialEq.TheImpl as births
use Rattle.vt_location.specs.contracts.locations.NodeRefPartialEq.TheImpl as nodes
use Rattle.vt_location.specs.declared.births.Birth.{Birth}
use Rattle.vt_location.specs.declared.locations.NodeRef.{NodeRef}

abbrev pub same_birth : Birth → Birth → Bool
same_birth = births.ghosts.eq

abbrev pub same_node : NodeRef → NodeRef → Bool
same_node = nodes.ghosts.eq
