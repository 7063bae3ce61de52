use Rattle.std.proofs.Common.{arith}
use Rattle.vt_ns.proofs.world.OverlayEvents.{kept_as_it_is}
use Rattle.vt_ns.proofs.mounting_overlays.kept_layer.Goals as goal

pub returns : goal.returns
returns c = kept_as_it_is c.args.lower (omega arith) c.requires
