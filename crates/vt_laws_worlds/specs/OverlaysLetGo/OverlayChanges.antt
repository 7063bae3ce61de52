-- What goes when a call changes an overlay: its merged tree, the real objects of its inodes, and the tree of its upper
-- layer. The kernel's overlayfs document, "upper and lower" (copy_up), "whiteouts and opaque directories"; unlink(2),
-- rename(2).
use Rattle.std.specs.Prelude.{List, None, Some, filter, map, nat_eq, not, ℕ, ⊤, ◌++◌, ◌≡◌}
use Rattle.vt_spec.specs.FileTree.{FileTree}
use Rattle.vt_spec.specs.Language.Changes.{Change, changed}
use Rattle.vt_spec.specs.Language.Changes.Change.{AddName, CopyUp, Make, Move, Remove, SetAttr, SetBytes, SetMark}
use Rattle.vt_spec.specs.Lists.{Fresh, is_among}
use Rattle.vt_spec.specs.Machine.CopyUp.{Merge, merge_changed}
use Rattle.vt_spec.specs.Machine.Filesystems.{merge_of, stack_of, with_change}
use Rattle.vt_spec.specs.Machine.Mounts.{Location}
use Rattle.vt_spec.specs.Machine.Settled.{named_in, settled}
use Rattle.vt_spec.specs.Machine.World.{Layer, Overlay, World, filesystem_at, filesystem_numbered, files_at, mount_at}
use Rattle.vt_spec.specs.Machine.Invariants.{IsWorld}
use Rattle.vt_spec.specs.TreeInvariant.{entry_at}
use Rattle.vt_laws_mounts.specs.LettingGo.FileChanges.{MayChange, names_lost}
use Rattle.vt_laws_mounts.specs.LettingGo.InUse.{IsListedTree}
use Rattle.vt_laws_mounts.specs.LettingGo.OneByOne.{Inode}
use Rattle.vt_laws_mounts.specs.LettingGo.Overlays.{let_go_all_inodes}
use Rattle.vt_laws_trees.specs.Trees.Settling.{inode_in}

-- a name that is removed is there
abbrev pub NameIsThere : FileTree ℕ → Change ℕ → Type 0
NameIsThere files (Make directory name number node) = ⊤
NameIsThere files (AddName directory name object) = ⊤
NameIsThere files (Remove directory name object) = entry_at files.tree directory name ≡ Some object
NameIsThere files (Move from old to new object) = ⊤
NameIsThere files (SetBytes file bytes) = ⊤
NameIsThere files (SetAttr object attr) = ⊤
NameIsThere files (SetMark directory opaque) = ⊤
NameIsThere files (CopyUp object) = ⊤

-- the overlay at a location, and what a change makes of it
abbrev pub merge_at : World ℕ → Location ℕ → Overlay ℕ → Layer ℕ → Merge ℕ
merge_at world location overlay upper = merge_of nat_eq world (filesystem_at nat_eq world location) overlay upper

abbrev pub merge_after : Fresh ℕ → World ℕ → Location ℕ → Overlay ℕ → Layer ℕ → Change ℕ → Merge ℕ
merge_after fresh world location overlay upper change =
    merge_changed nat_eq fresh (stack_of nat_eq world overlay upper) (merge_at world location overlay upper) change

-- An overlay with an upper layer is at the location. New numbers are no inode's of the filesystem of that layer. The
-- rules of the calls ask for what the change needs, and both trees are trees afterwards.
pub record CanChange (fresh : Fresh ℕ) (world : World ℕ) (location : Location ℕ) (change : Change ℕ)
    (overlay : Overlay ℕ)
    (upper : Layer ℕ) : Type 0 where
  pub overlay_there : (filesystem_at nat_eq world location).overlay ≡ Some overlay
  pub upper_there : overlay.upper ≡ Some upper
  pub distinct : (j k : ℕ) → fresh j ≡ fresh k → j ≡ k
  pub unused : (k : ℕ) → inode_in world upper.filesystem (fresh k) ≡ None
  pub may : MayChange (files_at nat_eq world location) change
  pub named : NameIsThere (files_at nat_eq world location) change
  pub tree : IsListedTree (changed nat_eq (files_at nat_eq world location) change)
  pub upper_tree : IsListedTree (merge_after fresh world location overlay upper change).upper

-- the inodes that had a name in a tree, and have none in the one after it
abbrev pub unnamed_by : FileTree ℕ → FileTree ℕ → List ℕ
unnamed_by before after = filter (λ number. not (is_among nat_eq number (named_in after))) (named_in before)

-- the inode of the overlay that loses a name, and those that lose their last one in the upper layer
abbrev pub inodes_lost_with_upper : Fresh ℕ → World ℕ → Location ℕ → Overlay ℕ → Layer ℕ → Change ℕ → List Inode
inodes_lost_with_upper fresh world location overlay upper change =
    map (λ inode. ((mount_at nat_eq world location).filesystem, inode))
    (names_lost (files_at nat_eq world location) change)
    ++ map (λ inode. (upper.filesystem, inode))
    (unnamed_by (filesystem_numbered nat_eq world upper.filesystem).files
    (merge_after fresh world location overlay upper change).upper)

-- After a call that changes an overlay at the most these go, with their real objects.
abbrev pub OverlayChangesLetGo : Type 0
OverlayChangesLetGo =
    (fresh : Fresh ℕ) (world : World ℕ) (location : Location ℕ) (change : Change ℕ) (overlay : Overlay ℕ)
    (upper : Layer ℕ)
    → IsWorld nat_eq world → CanChange fresh world location change overlay upper
    → settled nat_eq (with_change nat_eq fresh world location change)
    ≡ let_go_all_inodes (with_change nat_eq fresh world location change)
    (inodes_lost_with_upper fresh world location overlay upper change)
