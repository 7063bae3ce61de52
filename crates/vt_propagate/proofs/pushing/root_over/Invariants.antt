use Rattle.std.proofs.Common.{drop, map, nat_eq, ◌≡◌}
use Rattle.vt_spec.proofs.Common.{child_at}
use Rattle.vt_location.specs.Locations.{location_of}
use Rattle.vt_location.specs.MountValue.{mount_of}
use Rattle.vt_propagate.proofs.pushing.root_over.Given as goal

abbrev pub invariant-loop-copy : goal.invariant-loop-copy
invariant-loop-copy l = child_at nat_eq (map mount_of (drop l.copy-index l.copies)) (location_of l.place)
    ≡ child_at nat_eq (map mount_of l.copies) (location_of l.place)
