-- Taking mounts away changes no filesystem, and no mount's filesystem.
use Rattle.std.proofs.Common.{◌≡◌, ℕ, nat_eq}
use Rattle.vt_spec.proofs.Common.{Location, World, filesystems-taken_away, mount_at, shown-taken_away, without_mounts_on}

pub same_filesystems_without : (world : World ℕ) (object : Location ℕ)
    → (without_mounts_on nat_eq world object).filesystems ≡ world.filesystems
same_filesystems_without world object = filesystems-taken_away world _

pub same_mounted_without : (world : World ℕ) (object location : Location ℕ)
    → (mount_at nat_eq (without_mounts_on nat_eq world object) location).filesystem
    ≡ (mount_at nat_eq world location).filesystem
same_mounted_without world object location = shown-taken_away world _ location
