use Rattle.std.proofs.Common.{length, nat_eq, option_map, ◌-◌, ◌≡◌}
use Rattle.vt_spec.proofs.Common.{child_at, root_of}
use Rattle.vt_location.specs.Locations.{location_of}
use Rattle.vt_mount.specs.MountsValue.{IsOnItsFilesystem, mounts_in}
use Rattle.vt_mount.proofs.PointLemmas.{end_of}
use Rattle.vt_mount.proofs.mounts.Mounts.top_from.Given as goal

-- what is on top of a location is on top of those above it, each of which is the root of its mount
abbrev pub invariant-loop : goal.invariant-loop
invariant-loop l = (l.end ≡ length (mounts_in l.self))
    × (end_of (λ here. option_map root_of (child_at nat_eq (mounts_in l.self) here)) (l.end - l.counter)
    (location_of l.here)
    ≡ end_of (λ here. option_map root_of (child_at nat_eq (mounts_in l.self) here)) l.end (location_of l.fn.place))
    × IsOnItsFilesystem (mounts_in l.self) l.here
