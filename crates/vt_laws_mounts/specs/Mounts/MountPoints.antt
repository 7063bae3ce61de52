-- Where mounts stand: mount_namespaces(7).
use Rattle.std.specs.Prelude.{All, List, Some, false, ℕ, nat_eq, ◌≡◌}
use Rattle.vt_spec.specs.Lists.{any_pair}
use Rattle.vt_spec.specs.Machine.Mounts.{Location, Mount, child_at}
use Rattle.vt_spec.specs.Machine.Invariants.{share_a_mount_point}

-- no two mounts have one mount point
abbrev pub OneMountAMountPoint : List (Mount ℕ) → Type 0
OneMountAMountPoint mounts = any_pair (share_a_mount_point nat_eq) mounts ≡ false

-- A mount that has a mount point is the one that is found there.
abbrev pub StandsAloneAtItsMountPoint : Type 0
StandsAloneAtItsMountPoint =
    (mounts : List (Mount ℕ)) → OneMountAMountPoint mounts
    → All (λ mount. (point : Location ℕ) → mount.mount_point ≡ Some point → child_at nat_eq mounts point
    ≡ Some mount) mounts
