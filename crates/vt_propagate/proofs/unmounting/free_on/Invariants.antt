use Rattle.std.proofs.Common.{◌≡◌, ◌++◌, drop}
use Rattle.vt_location.specs.Locations.{number_of}
use Rattle.vt_mount.specs.MountsValue.{mounts_in}
use Rattle.vt_propagate.specs.Going.{free_on}
use Rattle.vt_propagate.proofs.Found.{counts}
use Rattle.vt_propagate.proofs.unmounting.free_on.Given as goal
use Rattle.vt_laws_mounts.specs.Mounts.Attaching.{numbers_of}

abbrev pub invariant-loop-receiver : goal.invariant-loop-receiver
invariant-loop-receiver l = counts l.going.items ++ numbers_of
    (free_on (mounts_in l.mounts) (number_of l.node) (counts (drop l.receiver-index l.receivers)))
    ≡ numbers_of (free_on (mounts_in l.mounts) (number_of l.node) (counts l.receivers))
