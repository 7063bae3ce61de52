use Rattle.std.proofs.Common.{eqb-true, sym, ◌∙◌}
use Rattle.vt_location.specs.Locations.{location_of}
use Rattle.vt_mount.specs.MountsValue.{mounts_in}
use Rattle.vt_propagate.proofs.Found.{counts}
use Rattle.vt_propagate.proofs.through.LookedThrough.{over_childless}
use Rattle.vt_propagate.proofs.through.free_at_then.Goals as goal

pub returns-then-is_empty : goal.returns-then-is_empty
returns-then-is_empty c =
    over_childless (mounts_in c.args.mounts.now) (counts c.args.gone.now.ids.now) c.children.ensures.order
    (location_of c.args.place) c.in_ok-child.ensures c.children.result.now c.children.ensures.children
    (eqb-true _ _ (sym c.is_empty.ensures ∙ c.if-is_empty.true))
