-- What a change of a filesystem leaves as it was, and that lower layers stay: the kernel's overlayfs document, "upper
-- and lower", and "changes to underlying filesystems" (that a layer in use is locked is the profile's).
use Rattle.std.specs.Prelude.{Bool, List, None, Option, Some, [], false, is_some, nat_eq, true, ℕ, ◌≡◌, ◌≢◌, ◌∷◌}
use Rattle.vt_spec.specs.Language.Calls.{Call}
use Rattle.vt_spec.specs.Language.Calls.Call.{Bind, Exit, Lazy, MountOverlay, MountPlain, MoveMount, PivotRoot, Remount, SetType, Setns, Umount, Unshare}
use Rattle.vt_spec.specs.Language.Changes.{Change, changed}
use Rattle.vt_spec.specs.Language.Changes.Change.{AddName, CopyUp, Make, Move, Remove, SetAttr, SetBytes, SetMark}
use Rattle.vt_spec.specs.FileTree.{FileTree, attr_in, is_opaque_in, kind_in}
use Rattle.vt_spec.specs.Machine.Filesystems.{with_change}
use Rattle.vt_spec.specs.Lists.{Fresh, is_among}
use Rattle.vt_spec.specs.Machine.Locked.{is_locked}
use Rattle.vt_spec.specs.Machine.Mounts.{Location}
use Rattle.vt_spec.specs.Machine.Policy.{call_outcome}
use Rattle.vt_spec.specs.Machine.World.{Layer, Overlay, Task, World, filesystem_at, filesystem_numbered, mount_at}
use Rattle.vt_spec.specs.Tree.{Node, bytes_in, entries_in}
use Rattle.vt_laws_trees.specs.Trees.Settling.{inode_in}

-- an inode keeps its kind, owner and mode, names, bytes or text, and mark
pub record IsKept (old new : Option (Node ℕ)) : Type 0 where
  pub there : is_some new ≡ is_some old
  pub kind : kind_in new ≡ kind_in old
  pub attr : attr_in new ≡ attr_in old
  pub names : entries_in new ≡ entries_in old
  pub bytes : bytes_in new ≡ bytes_in old
  pub mark : is_opaque_in new ≡ is_opaque_in old

-- the inodes of a tree that a change makes, or gives other names, bytes, attributes or mark
abbrev pub inodes_changed : Change ℕ → List ℕ
inodes_changed (Make directory name number node) = number ∷ directory ∷ []
inodes_changed (AddName directory name object) = directory ∷ []
inodes_changed (Remove directory name object) = directory ∷ []
inodes_changed (Move from old to new object) = from ∷ to ∷ []
inodes_changed (SetBytes file bytes) = file ∷ []
inodes_changed (SetAttr object attr) = object ∷ []
inodes_changed (SetMark directory opaque) = directory ∷ []
inodes_changed (CopyUp object) = []

-- a change of a tree leaves every other inode as it was
abbrev pub OtherInodesStay : Type 0
OtherInodesStay =
    (files : FileTree ℕ) (change : Change ℕ) (inode : ℕ)
    → is_among nat_eq inode (inodes_changed change) ≡ false
    → IsKept (files.tree.node inode) ((changed nat_eq files change).tree.node inode)

-- A change through a mount changes the filesystem that is mounted and, if that is an overlay, the filesystem of its
-- upper layer: every other one, and so each lower layer in another one, is as it was.
abbrev pub OtherFilesystemsStay : Type 0
OtherFilesystemsStay =
    (fresh : Fresh ℕ) (world : World ℕ) (location : Location ℕ) (change : Change ℕ) (number : ℕ)
    → number ≢ (mount_at nat_eq world location).filesystem
    → ((overlay : Overlay ℕ) (upper : Layer ℕ)
    → (filesystem_at nat_eq world location).overlay ≡ Some overlay → overlay.upper ≡ Some upper
    → number ≢ upper.filesystem)
    → filesystem_numbered nat_eq (with_change nat_eq fresh world location change) number
    ≡ filesystem_numbered nat_eq world number

-- mounts, groups, namespaces and tasks are as they were
abbrev pub ChangeKeepsTheRest : Type 0
ChangeKeepsTheRest =
    (fresh : Fresh ℕ) (world : World ℕ) (location : Location ℕ) (change : Change ℕ)
    → (with_change nat_eq fresh world location change)
    ≡ record world { filesystems = (with_change nat_eq fresh world location change).filesystems }

-- a plain tree in which no overlay has its upper layer
pub record HasNoUpperLayer (world : World ℕ) (filesystem : ℕ) : Type 0 where
  pub plain : (filesystem_numbered nat_eq world filesystem).overlay ≡ None
  pub no_upper : (number : ℕ) (overlay : Overlay ℕ) (upper : Layer ℕ)
      → (filesystem_numbered nat_eq world number).overlay ≡ Some overlay → overlay.upper ≡ Some upper
      → filesystem ≢ upper.filesystem

-- calls on files, descriptors, links, directories, and on what a task has: all that change no mount by their own
abbrev pub changes_no_mount : Call → Bool
changes_no_mount Exit = false
changes_no_mount Unshare = false
changes_no_mount (Setns name) = false
changes_no_mount (MountPlain path flags) = false
changes_no_mount (MountOverlay path options flags) = false
changes_no_mount (Bind source path recursive) = false
changes_no_mount (MoveMount source path) = false
changes_no_mount (Umount path) = false
changes_no_mount (Lazy path) = false
changes_no_mount (Remount path flags) = false
changes_no_mount (SetType path word recursive) = false
changes_no_mount (PivotRoot new put) = false
changes_no_mount call = true

-- What lies in a lower layer is locked, and while it is, every such call of every task leaves it as it was: through
-- mounts of its own filesystem, and through overlays, which write elsewhere. (The world is the one before what nothing
-- uses any more is let go.)
abbrev pub LockedInodesStay : Type 0
LockedInodesStay =
    (fresh : Fresh ℕ) (world : World ℕ) (task : Task ℕ) (call : Call) (filesystem inode : ℕ)
    → changes_no_mount call ≡ true → HasNoUpperLayer world filesystem
    → is_locked nat_eq world filesystem inode ≡ true → ((k : ℕ) → inode ≢ fresh k)
    → IsKept (inode_in world filesystem inode)
    (inode_in (call_outcome nat_eq fresh world task call).world filesystem inode)
