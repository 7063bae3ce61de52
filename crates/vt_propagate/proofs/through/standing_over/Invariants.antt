use Rattle.std.proofs.Common.{length, ◌-◌, ◌≡◌}
use Rattle.vt_location.specs.Locations.{location_of}
use Rattle.vt_mount.specs.MountsValue.{mounts_in}
use Rattle.vt_propagate.specs.Through.{over_from}
use Rattle.vt_propagate.proofs.Found.{counts}
use Rattle.vt_propagate.proofs.through.standing_over.Given as goal

-- what stands over the place is what stands over this one
abbrev pub invariant-loop : goal.invariant-loop
invariant-loop l = (l.end ≡ length (mounts_in l.mounts))
    × (over_from (l.end - l.counter) (mounts_in l.mounts) (counts l.gone.ids.now) (location_of l.here)
    ≡ over_from l.end (mounts_in l.mounts) (counts l.gone.ids.now) (location_of l.fn.place))
