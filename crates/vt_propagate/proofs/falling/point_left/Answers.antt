use Rattle.std.proofs.Common.{◌∙◌, Some, ap, sym, option_map}
use Rattle.vt_location.specs.Locations.{location_of}
use Rattle.vt_location.specs.Numbers.{counted}
use Rattle.vt_mount.specs.MountsValue.{mounts_in}
use Rattle.vt_propagate.proofs.falling.Fallen.{left_gone, left_some}
use Rattle.vt_propagate.proofs.Found.{counts}
use Rattle.vt_propagate.proofs.falling.point_left.Goals as goal

pub returns-then-is_gone : goal.returns-then-is_gone
returns-then-is_gone c =
    left_gone (mounts_in c.args.mounts.now) (counts c.args.gone.now.ids.now) (counted c.args.id.count)
    (sym c.is_gone.ensures ∙ c.if-is_gone.true)

pub returns : goal.returns
returns c = ap (λ place. Some (counted c.args.id.count, place)) c.place_left.ensures
    ∙ left_some (mounts_in c.args.mounts.now) (counts c.args.gone.now.ids.now) (counted c.args.id.count)
    c.in_ok-mount.ensures (sym c.is_gone.ensures ∙ c.if-is_gone.false)
    (ap (option_map location_of) c.in_ok-mount-2.was)
