-- What contracts see of the plain filesystems, and what the definitions see of them.
use Rattle.std.specs.Prelude.{List, None, Option, Some, [], filter, find, if◌then◌else◌, map, nat_eq, not, unwrap_or, ℕ, ◌+◌, ◌-◌, ◌≡◌, ◌∷◌}
use Rattle.vt_spec.specs.declared.attributes.Attr.{Attr}
use Rattle.vt_spec.specs.FileTree.{FileTree}
use Rattle.vt_spec.specs.Machine.Renaming.{renamed_node}
use Rattle.vt_spec.specs.Machine.World.{Filesystem}
use Rattle.vt_spec.specs.Inodes.{Inode, Inodes, one_directory, pinned, renamed_inodes, tree_of, unpinned}
use Rattle.vt_spec.specs.Tree.{Node, tree_of_root}
use Rattle.vt_fs.specs.Trees.TreeValue.{TreeValue, inodes_of, next_number}
use Rattle.vt_location.specs.declared.numbers.FilesystemId.{FilesystemId}
use Rattle.vt_location.specs.InOrder.{in_order_by}
use Rattle.vt_location.specs.Numbers.{counted, exchanged, inode_number}
use Rattle.vt_fs.specs.declared.filesystems.Filesystem.{Filesystem as Held}

-- a filesystem: its count, its tree with inodes in slots, and how many mounts show it
pub record FilesystemEntry : Type 0 where
  pub count : ℕ
  pub tree : TreeValue
  pub mounts : ℕ

-- the filesystems, in the order in which they were made
abbrev pub Filesystems : Type 0
Filesystems = List FilesystemEntry

-- each filesystem under its count
abbrev pub held_entry : FilesystemId × Held → FilesystemEntry
held_entry entry = record { count = entry.0.count; tree = entry.1.tree; mounts = entry.1.mounts }

abbrev pub entries_in : List (FilesystemId × Held) → Filesystems
entries_in kept = map held_entry kept

-- those that are kept by hash, in the order of their counts: that in which they were made
abbrev pub held : List (FilesystemId × Held) → Filesystems
held kept = entries_in (in_order_by (λ id. id.count) kept)

-- a tree in the slots of a filesystem: its inodes by their numbers, with their uses
abbrev pub seen_in : ℕ → TreeValue → Inodes ℕ
seen_in count tree = renamed_inodes (exchanged count) (exchanged count) (inodes_of tree)

abbrev pub inodes_seen : FilesystemEntry → Inodes ℕ
inodes_seen entry = seen_in entry.count entry.tree

-- a node in the slots of a filesystem, its entries and its parent by the numbers of inodes
abbrev pub node_seen : ℕ → Node ℕ → Node ℕ
node_seen count node = renamed_node (exchanged count) (exchanged count) node

-- the slots that have an inode, from a slot on
abbrev pub filled_from : ℕ → List (Option (Inode ℕ)) → List ℕ
filled_from slot [] = []
filled_from slot (None ∷ rest) = filled_from (slot + 1) rest
filled_from slot (Some inode ∷ rest) = slot ∷ filled_from (slot + 1) rest

-- the numbers of the inodes, in the order of their slots
abbrev pub numbers_seen : FilesystemEntry → List ℕ
numbers_seen entry = map (exchanged entry.count) (filled_from 0 entry.tree.slots)

-- the number that the next inode gets
abbrev pub next_seen : FilesystemEntry → ℕ
next_seen entry = exchanged entry.count (next_number entry.tree)

abbrev pub files_seen : FilesystemEntry → FileTree ℕ
files_seen entry = record { tree = tree_of (inodes_seen entry); numbers = numbers_seen entry }

abbrev pub filesystem_seen : FilesystemEntry → Filesystem ℕ
filesystem_seen entry = record { number = counted entry.count; files = files_seen entry; overlay = None; change = 0 }

abbrev pub filesystems_seen : Filesystems → List (Filesystem ℕ)
filesystems_seen filesystems = map filesystem_seen filesystems

abbrev pub entry_of : Filesystems → ℕ → Option FilesystemEntry
entry_of filesystems count = find (λ entry. nat_eq count entry.count) filesystems

-- the value of a count that no filesystem has: no inodes, and the number of the filesystem as that of its root
abbrev pub no_entry : ℕ → FilesystemEntry
no_entry count = record {
  count = count;
  tree = record {
    root = exchanged count
        (counted count);
    slots = [];
    next = 0;
    promised = 0;
  };
  mounts = 0;
}

abbrev pub entry_at : Filesystems → ℕ → FilesystemEntry
entry_at filesystems count = unwrap_or (entry_of filesystems count) (no_entry count)

-- the inodes and the files of a filesystem
abbrev pub inodes_at : Filesystems → ℕ → Inodes ℕ
inodes_at filesystems count = inodes_seen (entry_at filesystems count)

abbrev pub files_at : Filesystems → ℕ → FileTree ℕ
files_at filesystems count = files_seen (entry_at filesystems count)

-- how many inodes of a filesystem are promised to a plan
abbrev pub inodes_promised : Filesystems → ℕ → ℕ
inodes_promised filesystems count = (entry_at filesystems count).tree.promised

-- a filesystem with so many more, and with so many less
abbrev pub promising : ℕ → FilesystemEntry → FilesystemEntry
promising inodes entry = record entry { tree = record entry.tree { promised = entry.tree.promised + inodes } }

abbrev pub giving_back : ℕ → FilesystemEntry → FilesystemEntry
giving_back inodes entry = record entry { tree = record entry.tree { promised = entry.tree.promised - inodes } }

-- the filesystems with that of this count changed
abbrev pub changed_if : ℕ → (FilesystemEntry → FilesystemEntry) → FilesystemEntry → FilesystemEntry
changed_if count change entry = if nat_eq count entry.count then change entry else entry

abbrev pub with_changed : ℕ → (FilesystemEntry → FilesystemEntry) → Filesystems → Filesystems
with_changed count change filesystems = map (changed_if count change) filesystems

abbrev pub with_tree : ℕ → TreeValue → Filesystems → Filesystems
with_tree count tree filesystems = with_changed count (λ entry. record entry { tree = tree }) filesystems

-- the filesystems without that of this count
abbrev pub without : ℕ → Filesystems → Filesystems
without count filesystems = filter (λ entry. not (nat_eq count entry.count)) filesystems

-- a filesystem by numbers, with the uses of its inodes and the number of mounts that show it
pub record Shown : Type 0 where
  pub count : ℕ
  pub inodes : Inodes ℕ
  pub mounts : ℕ

abbrev pub shown_entry : FilesystemEntry → Shown
shown_entry entry = record { count = entry.count; inodes = inodes_seen entry; mounts = entry.mounts }

abbrev pub shown : Filesystems → List Shown
shown filesystems = map shown_entry filesystems

-- those with the inodes of one filesystem changed
abbrev pub shown_if : ℕ → (Inodes ℕ → Inodes ℕ) → Shown → Shown
shown_if count change one = if nat_eq count one.count then record one { inodes = change one.inodes } else one

abbrev pub shown_with : ℕ → (Inodes ℕ → Inodes ℕ) → List Shown → List Shown
shown_with count change all = map (shown_if count change) all

-- the inodes of one filesystem have changed so, and nothing else has
pub record ChangesInodes (count : ℕ) (change : Inodes ℕ → Inodes ℕ) (old new : Filesystems) : Type 0 where
  pub changed : shown new ≡ shown_with count change (shown old)
  pub others : without count new ≡ without count old

-- with one mount more of a filesystem, and with one less
abbrev pub mounted_once_more : ℕ → Filesystems → Filesystems
mounted_once_more count all = with_changed count (λ entry. record entry { mounts = entry.mounts + 1 }) all

abbrev pub mounted_once_less : ℕ → Filesystems → Filesystems
mounted_once_less count all = with_changed count (λ entry. record entry { mounts = entry.mounts - 1 }) all

-- the filesystem goes if no mount shows it
abbrev pub without_unmounted : ℕ → Filesystems → Filesystems
without_unmounted count all = if nat_eq (entry_at all count).mounts 0 then without count all else all

-- the root of a mount is used once more, and its filesystem has one mount more
pub record HoldsRoot (count number : ℕ) (old new : Filesystems) : Type 0 where
  pub between : Filesystems
  pub pins : ChangesInodes count (λ inodes. pinned nat_eq inodes number) old between
  pub mounted : new ≡ mounted_once_more count between

-- the root of a mount is used once less, and its filesystem has one mount less, and goes with its last
pub record LeavesRoot (count number : ℕ) (old new : Filesystems) : Type 0 where
  pub between : Filesystems
  pub unpins : ChangesInodes count (λ inodes. unpinned nat_eq inodes number) old between
  pub left : new ≡ without_unmounted count (mounted_once_less count between)

-- a new filesystem as the definitions see it: one empty directory, in the first slot
abbrev pub new_filesystem : ℕ → Attr → Filesystem ℕ
new_filesystem count attr = record {
  number = counted count;
  files = record { tree = tree_of_root nat_eq (inode_number count 0) attr; numbers = inode_number count 0 ∷ [] };
  overlay = None;
  change = 0;
}

-- it is new, and no mount shows it yet
pub record IsNew (count : ℕ) (attr : Attr) (entry : FilesystemEntry) : Type 0 where
  pub counts : entry.count ≡ count
  pub seen : filesystem_seen entry ≡ new_filesystem count attr
  pub inodes : inodes_seen entry ≡ one_directory nat_eq (inode_number count 0) attr
  pub unmounted : entry.mounts ≡ 0

-- a filesystem with another tree, as its fields are seen
abbrev pub held_with_tree : Held → TreeValue → Held
held_with_tree filesystem tree = record filesystem { tree = tree }
