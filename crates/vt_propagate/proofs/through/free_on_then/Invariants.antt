use Rattle.std.proofs.Common.{◌≡◌, ◌++◌, drop}
use Rattle.vt_location.specs.Locations.{number_of}
use Rattle.vt_mount.specs.MountsValue.{mounts_in}
use Rattle.vt_propagate.specs.Through.{free_on_then}
use Rattle.vt_propagate.proofs.Found.{counts}
use Rattle.vt_propagate.proofs.through.free_on_then.Given as goal

abbrev pub invariant-loop-receiver : goal.invariant-loop-receiver
invariant-loop-receiver l =
    counts l.going.items ++ free_on_then (mounts_in l.mounts) (counts l.gone.ids.now) (number_of l.node)
    (counts (drop l.receiver-index l.receivers))
    ≡ free_on_then (mounts_in l.mounts) (counts l.gone.ids.now) (number_of l.node) (counts l.receivers)
