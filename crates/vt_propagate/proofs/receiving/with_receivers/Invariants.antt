use Rattle.std.proofs.Common.{◌≡◌, ◌++◌, ◌∷◌, drop, map}
use Rattle.vt_location.specs.Locations.{location_of}
use Rattle.vt_location.specs.MountValue.{mount_of}
use Rattle.vt_mount.specs.MountsValue.{mounts_in}
use Rattle.vt_propagate.specs.Seen.{joins}
use Rattle.vt_propagate.proofs.Found.{passing}
use Rattle.vt_propagate.proofs.receiving.with_receivers.Given as goal

abbrev pub invariant-loop-id : goal.invariant-loop-id
invariant-loop-id g l = map mount_of l.parts.items
    ++ passing (joins (g.R.Reach.under l.directories) (location_of l.place) (mount_of l.parent)) (mounts_in l.mounts)
    (drop l.id-index l.receivers)
    ≡ mount_of l.parent ∷ passing (joins (g.R.Reach.under l.directories) (location_of l.place) (mount_of l.parent))
    (mounts_in l.mounts) l.receivers
