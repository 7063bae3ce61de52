use Rattle.std.proofs.Common.{map, arith}
use Rattle.vt_spec.proofs.Common.{common_steps}
use Rattle.vt_ns.proofs.Common.{counted, namespace_of}
use Rattle.vt_ns.proofs.world.ListedWorlds.{namespaces_kept}
use Rattle.vt_ns.proofs.world.World.namespaces.Goals as goal

pub returns : goal.returns
returns c = grind (arith, common_steps, map, counted, namespaces_kept, namespace_of)
