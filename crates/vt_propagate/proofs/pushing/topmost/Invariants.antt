use Rattle.std.proofs.Common.{length, map, nat_eq, option_map, ◌-◌, ◌≡◌}
use Rattle.vt_spec.proofs.Common.{child_at, root_of}
use Rattle.vt_location.specs.Locations.{location_of}
use Rattle.vt_location.specs.MountValue.{mount_of}
use Rattle.vt_mount.proofs.PointLemmas.{end_of}
use Rattle.vt_propagate.proofs.pushing.topmost.Given as goal

-- what is on top of a location is on top of those above it
abbrev pub invariant-loop : goal.invariant-loop
invariant-loop l = (l.end ≡ length (map mount_of l.copies))
    × (end_of (λ here. option_map root_of (child_at nat_eq (map mount_of l.copies) here)) (l.end - l.counter)
    (location_of l.here) ≡ end_of (λ here. option_map root_of (child_at nat_eq (map mount_of l.copies) here)) l.end
    (location_of l.fn.place))
