use Rattle.std.proofs.Common.{◌≡◌, ◌++◌, ◌-◌, length, map, nat_eq, option_map}
use Rattle.vt_spec.specs.Lists.{chain}
use Rattle.vt_spec.specs.Machine.Mounts.{child_at, mounts_over, root_of}
use Rattle.vt_location.specs.Locations.{location_of}
use Rattle.vt_mount.specs.MountsValue.{mounts_in}
use Rattle.vt_steps.proofs.over.push_over.Given as goal

abbrev pub invariant-loop-above : goal.invariant-loop-above
invariant-loop-above l = map location_of l.passed.items ++ chain (length (mounts_in l.mounts) - l._above)
    (λ here. option_map root_of (child_at nat_eq (mounts_in l.mounts) here)) (location_of l.here)
    ≡ map location_of l.fn.passed.items ++ mounts_over nat_eq (mounts_in l.mounts) (location_of l.fn.at)
