use Rattle.std.proofs.Common.{length, nat_eq, ◌-◌, ◌≡◌}
use Rattle.vt_spec.proofs.Common.{mount_point_of_parent}
use Rattle.vt_location.specs.Locations.{location_of}
use Rattle.vt_mount.specs.MountsValue.{mounts_in}
use Rattle.vt_mount.proofs.PointLemmas.{end_of}
use Rattle.vt_propagate.specs.Falling.{of_mounts}
use Rattle.vt_propagate.proofs.Found.{counts}
use Rattle.vt_propagate.proofs.falling.place_left.Given as goal

-- where a mount point is left is where those below it are
abbrev pub invariant-loop : goal.invariant-loop
invariant-loop l = (l.end ≡ length (mounts_in l.mounts))
    × (end_of (mount_point_of_parent nat_eq (of_mounts (mounts_in l.mounts)) (counts l.gone.ids.now)) (l.end - l.counter)
    (location_of l.here)
    ≡ end_of (mount_point_of_parent nat_eq (of_mounts (mounts_in l.mounts)) (counts l.gone.ids.now)) l.end
    (location_of l.fn.place))
