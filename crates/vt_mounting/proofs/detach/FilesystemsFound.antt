-- The filesystems that the definitions find by their numbers among those that are kept by their inodes.
use Rattle.std.proofs.Common.{ℕ, nat_eq, Bool, cond, Some, unwrap_or, find}
use Rattle.vt_spec.proofs.Common.{Filesystem, no_filesystem}
use Rattle.vt_mounting.proofs.Common.{FilesystemEntry, Filesystems, filesystem_seen, filesystems_seen}

-- the filesystem with a number, as the definitions find it
abbrev pub filesystem_found : Filesystems → ℕ → Filesystem ℕ
filesystem_found fs number =
    unwrap_or (find (λ (filesystem : Filesystem ℕ). nat_eq number filesystem.number) (filesystems_seen fs))
    (no_filesystem number)

-- what is told of a filesystem that is found first, or further on
abbrev pub found_if : Bool → FilesystemEntry → Filesystems → ℕ → Filesystem ℕ
found_if b x fs number = unwrap_or (cond b (Some (filesystem_seen x))
    (find (λ (filesystem : Filesystem ℕ). nat_eq number filesystem.number) (filesystems_seen fs)))
    (no_filesystem number)
