-- Mounts and filesystems with their counts, where a use of a location comes or goes: chdir(2), open(2), close(2).
use Rattle.std.specs.Option.{option_and_then}
use Rattle.std.specs.Prelude.{Bool, List, None, Option, Some, filter, filter_map, find, if◌then◌else◌, map, nat_eq, not, option_map, option_to_list, unwrap_or, ℕ, ◌+◌, ◌++◌, ◌-◌}
use Rattle.vt_laws_mounts.specs.Counts.Using.{pinned_if, unpinned_if}
use Rattle.vt_fs.specs.FilesystemsValue.{Filesystems, Shown, shown}
use Rattle.vt_laws_mounts.specs.LettingGo.OneByOne.{Inode}
use Rattle.vt_location.specs.declared.locations.Location.{Location}
use Rattle.vt_location.specs.declared.locations.NodeRef.{NodeRef}
use Rattle.vt_location.specs.declared.mounts.Mount.{Mount as Attached}
use Rattle.vt_location.specs.Locations.{number_of}
use Rattle.vt_location.specs.Numbers.{counted}
use Rattle.vt_spec.specs.Lists.{folded}
use Rattle.vt_spec.specs.Machine.Mounts.{Location as Place, Mount, detached}
use Rattle.vt_mount.specs.MountsValue.{MountEntry, changed, entry_numbered, held, released, without}
use Rattle.vt_world.specs.WorldValue.{OverlayEntry, WorldValue}
pub use Rattle.vt_mount.specs.MountsValue.{is_unused, unused_entry}

-- an overlay as it is kept: its number, how many mounts show it, and the directories of its layers, and its work directory
pub record Merged : Type 0 where
  pub number : ℕ
  pub mounts : ℕ
  pub layers : List Inode

-- mounts, plain filesystems and overlays as they are counted
pub record Kept : Type 0 where
  pub mounts : List MountEntry
  pub filesystems : List Shown
  pub overlays : List Merged

abbrev pub kept_with : List MountEntry → Filesystems → List Merged → Kept
kept_with mounts filesystems overlays =
    record { mounts = mounts; filesystems = shown filesystems; overlays = overlays }

-- of a world
abbrev pub merged_seen : OverlayEntry → Merged
merged_seen entry = record {
  number = entry.number;
  mounts = entry.mounts;
  layers = map (λ layer. (layer.filesystem, layer.directory))
      (option_to_list entry.upper ++ option_to_list entry.work ++ entry.lowers);
}

abbrev pub kept_of : WorldValue → Kept
kept_of value = kept_with value.mounts value.filesystems (map merged_seen value.overlays)

-- an inode by the number of its filesystem and its own
abbrev pub inode_of : NodeRef → Inode
inode_of node = (counted node.filesystem.count, number_of node)

-- one use more or less of an inode
abbrev pub pinned_in : Inode → List Shown → List Shown
pinned_in inode all = map (λ (one : Shown). record one { inodes = pinned_if (counted one.count) one.inodes inode }) all

abbrev pub unpinned_in : Inode → List Shown → List Shown
unpinned_in inode all = map (λ (one : Shown). record one {
  inodes = unpinned_if
      (counted one.count) one.inodes inode;
}) all

-- one mount less of a filesystem
abbrev pub released_if : ℕ → Shown → Shown
released_if filesystem one = if nat_eq filesystem (counted one.count) then record one { mounts = one.mounts - 1 }
    else one

abbrev pub released_in : ℕ → List Shown → List Shown
released_in filesystem all = map (released_if filesystem) all

-- how many mounts show a filesystem
abbrev pub mounts_shown : ℕ → List Shown → ℕ
mounts_shown filesystem all =
    unwrap_or (option_map (λ one. one.mounts) (find (λ one. nat_eq filesystem (counted one.count)) all)) 0

abbrev pub without_filesystem : ℕ → List Shown → List Shown
without_filesystem filesystem all = filter (λ one. not (nat_eq filesystem (counted one.count))) all

-- the filesystem goes if no mount shows it
abbrev pub let_go_filesystem : ℕ → List Shown → List Shown
let_go_filesystem filesystem all =
    if nat_eq (mounts_shown filesystem all) 0 then without_filesystem filesystem all else all

-- Overlays

abbrev pub merged_at : ℕ → List Merged → Option Merged
merged_at number all = find (λ one. nat_eq number one.number) all

abbrev pub released_merged : ℕ → List Merged → List Merged
released_merged number all =
    map (λ (one : Merged). if nat_eq number one.number then record one { mounts = one.mounts - 1 } else one) all

abbrev pub without_merged : ℕ → List Merged → List Merged
without_merged number all = filter (λ one. not (nat_eq number one.number)) all

-- the overlays of a world that are kept still, as often as they are mounted
abbrev pub overlays_kept : List Merged → List OverlayEntry → List OverlayEntry
overlays_kept left all =
    filter_map (λ entry. option_map (λ (one : Merged). record entry { mounts = one.mounts })
    (merged_at entry.number left)) all

-- a layer less: a use of its directory, and a mount of its filesystem, which goes with its last
abbrev pub without_layer : List Shown → Inode → List Shown
without_layer all inode = let_go_filesystem inode.0 (released_in inode.0 (unpinned_in inode all))

-- what is left of plain filesystems with one mount less of one, or of an overlay: a plain one goes with its last mount,
-- and the layers of an overlay with that of the overlay
abbrev pub shown_left_by : ℕ → Option Merged → List Shown → List Shown
shown_left_by number None all = let_go_filesystem number (released_in number all)
shown_left_by number (Some one) all = if nat_eq (one.mounts - 1) 0 then folded without_layer all one.layers else all

-- and what is left of overlays
abbrev pub merged_left_by : ℕ → Option Merged → List Merged → List Merged
merged_left_by number None all = all
merged_left_by number (Some one) all =
    if nat_eq (one.mounts - 1) 0 then without_merged number all else released_merged number all

abbrev pub leave_filesystem : ℕ → Kept → Kept
leave_filesystem number k = record k {
  filesystems = shown_left_by number (merged_at number k.overlays) k.filesystems;
  overlays = merged_left_by number (merged_at number k.overlays) k.overlays;
}

-- a root is used once less, and its filesystem has one mount less
abbrev pub leave_root : ℕ → ℕ → Kept → Kept
leave_root filesystem root k =
    leave_filesystem filesystem (record k { filesystems = unpinned_in (filesystem, root) k.filesystems })

abbrev pub root_left : Option NodeRef → Kept → Kept
root_left None k = k
root_left (Some root) k = leave_root (counted root.filesystem.count) (number_of root) k

-- Mounts

-- a mount goes with a use of its root, and one mount of its filesystem
abbrev pub without_mount : ℕ → Mount ℕ → Kept → Kept
without_mount number mount k =
    leave_filesystem mount.filesystem (record k {
      mounts = without number k.mounts;
      filesystems = unpinned_in (mount.filesystem, mount.root) k.filesystems;
    })

abbrev pub let_go_entry : ℕ → Kept → Option MountEntry → Kept
let_go_entry number k None = k
let_go_entry number k (Some entry) = if is_unused entry then without_mount number entry.mount k else k

-- the mount goes if it is in no namespace and nothing is on it
abbrev pub let_go_mount : ℕ → Kept → Kept
let_go_mount number k = let_go_entry number k (entry_numbered k.mounts number)

-- one use more of a location, and one less
abbrev pub with_use : ℕ → Inode → Bool → Kept → Kept
with_use mount inode writes k =
    record k { mounts = changed mount (held writes) k.mounts; filesystems = pinned_in inode k.filesystems }

abbrev pub released_use : ℕ → Inode → Bool → Kept → Kept
released_use mount inode writes k =
    record k { mounts = changed mount (released writes) k.mounts; filesystems = unpinned_in inode k.filesystems }

abbrev pub without_use : ℕ → Inode → Bool → Kept → Kept
without_use mount inode writes k = let_go_mount mount (released_use mount inode writes k)

abbrev pub with_location : Location → Bool → Kept → Kept
with_location at writes k = with_use (counted at.mount.count) (inode_of at.node) writes k

abbrev pub without_location : Location → Bool → Kept → Kept
without_location at writes k = without_use (counted at.mount.count) (inode_of at.node) writes k

-- Mounts that leave their namespaces

-- the mount point of a mount
abbrev pub point_of : ℕ → List MountEntry → Option (Place ℕ)
point_of number all = option_and_then (λ entry. entry.mount.mount_point) (entry_numbered all number)

-- one use less of the inode at a mount point
abbrev pub unpinned_at : Option Location → List Shown → List Shown
unpinned_at None all = all
unpinned_at (Some point) all = unpinned_in (inode_of point.node) all

-- a mount loses its namespace and its mount point, and goes if nothing is on it
abbrev pub detached_entry : MountEntry → MountEntry
detached_entry entry = record entry { mount = detached entry.mount }

abbrev pub detached_use : ℕ → Option Location → Kept → Kept
detached_use number point k =
    record k { mounts = changed number detached_entry k.mounts; filesystems = unpinned_at point k.filesystems }

abbrev pub without_attachment : ℕ → Option Location → Kept → Kept
without_attachment number point k = let_go_mount number (detached_use number point k)

-- Mounts that are attached

abbrev pub pinned_at : Option Location → List Shown → List Shown
pinned_at None all = all
pinned_at (Some point) all = pinned_in (inode_of point.node) all

-- one mount more of a filesystem
abbrev pub mounted_if : ℕ → Shown → Shown
mounted_if filesystem one = if nat_eq filesystem (counted one.count) then record one { mounts = one.mounts + 1 }
    else one

abbrev pub mounted_in : ℕ → List Shown → List Shown
mounted_in filesystem all = map (mounted_if filesystem) all

-- a mount that comes is a use of its root's inode and of its mount point's, and one more mount of its filesystem
abbrev pub shown_by : List Shown → Attached → List Shown
shown_by all mount =
    mounted_in (counted mount.root.filesystem.count) (pinned_at mount.mount_point (pinned_in (inode_of mount.root) all))

-- a mount of an overlay is one more of it
abbrev pub mounted_merged : ℕ → List Merged → List Merged
mounted_merged number all =
    map (λ (one : Merged). if nat_eq number one.number then record one { mounts = one.mounts + 1 } else one) all

abbrev pub merged_by : List Merged → Attached → List Merged
merged_by all mount = mounted_merged (counted mount.root.filesystem.count) all

-- the mounts come after all others, and nothing is on them
abbrev pub with_attached : List Attached → Kept → Kept
with_attached new k =
    record k {
      mounts = k.mounts ++ map unused_entry new;
      filesystems = folded shown_by k.filesystems new;
      overlays = folded merged_by k.overlays new;
    }
