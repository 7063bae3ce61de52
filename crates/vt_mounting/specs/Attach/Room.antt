-- Room for the uses that new mounts make.
use Rattle.std.specs.Prelude.{Bool, List, None, Option, Some, find, nat_eq, nat_le, option_map, true, unwrap_or, ℕ, ◌&&◌}
use Rattle.vt_fs.specs.FilesystemsValue.{Shown}
use Rattle.vt_laws_mounts.specs.LettingGo.OneByOne.{Inode}
use Rattle.vt_location.specs.declared.locations.Location.{Location}
use Rattle.vt_location.specs.declared.mounts.Mount.{Mount}
use Rattle.vt_location.specs.Locations.{is_small_node}
use Rattle.vt_location.specs.Numbers.{counted}
use Rattle.vt_spec.specs.Inodes.{uses_in}
use Rattle.vt_mounting.specs.Detach.Uses.{Merged, inode_of, merged_at, mounts_shown}

-- how often an inode is in use
abbrev pub uses_shown : Inode → List Shown → ℕ
uses_shown inode all =
    unwrap_or (option_map (λ one. uses_in (one.inodes.inode inode.1))
    (find (λ one. nat_eq inode.0 (counted one.count)) all)) 0

abbrev pub point_has_room : ℕ → List Shown → Option Location → Bool
point_has_room most all None = true
point_has_room most all (Some point) = nat_le (uses_shown (inode_of point.node) all) most

-- the root, the mount point and the filesystem of a mount have no more uses than so many
abbrev pub has_room : ℕ → List Shown → Mount → Bool
has_room most all mount =
    nat_le (uses_shown (inode_of mount.root) all) most && point_has_room most all mount.mount_point
    && nat_le (mounts_shown (counted mount.root.filesystem.count) all) most

-- an overlay has no more mounts than so many
abbrev pub merged_has_room : ℕ → List Merged → Mount → Bool
merged_has_room most all mount =
    nat_le (unwrap_or (option_map (λ one. one.mounts) (merged_at (counted mount.root.filesystem.count) all)) 0) most

abbrev pub point_is_small : Option Location → Bool
point_is_small None = true
point_is_small (Some point) = is_small_node point.node

-- the nodes of its root and its mount point are made of numbers below 2^64, as code has them
abbrev pub has_small_nodes : Mount → Bool
has_small_nodes mount = is_small_node mount.root && point_is_small mount.mount_point
