-- What a change through an overlay leaves as it was in the filesystem of its upper layer: the kernel's overlayfs
-- document, "upper and lower".
use Rattle.std.specs.Prelude.{Some, is_some, nat_eq, true, ℕ, ◌≡◌, ◌≢◌}
use Rattle.vt_spec.specs.Language.Changes.{Change}
use Rattle.vt_spec.specs.Language.Changes.Change.{AddName, CopyUp, Make, Move, Remove, SetAttr, SetBytes, SetMark}
use Rattle.vt_spec.specs.FileTree.{FileTree}
use Rattle.vt_spec.specs.Machine.Filesystems.{with_change}
use Rattle.vt_spec.specs.Lists.{Fresh}
use Rattle.vt_spec.specs.Machine.Mounts.{Location}
use Rattle.vt_spec.specs.Machine.World.{Layer, Overlay, World, files_at, filesystem_at}
use Rattle.vt_spec.specs.Machine.World.Real.{Upper}
use Rattle.vt_spec.specs.Machine.Invariants.{IsWorld}
use Rattle.vt_spec.specs.TreeInvariant.{entry_at}
use Rattle.vt_laws_trees.specs.Layers.Layers.Untouched.{IsKept}
use Rattle.vt_laws_trees.specs.Trees.Settling.{inode_in}

abbrev pub IsThere : FileTree ℕ → ℕ → Type 0
IsThere files number = is_some (files.tree.node number) ≡ true

-- the inodes that a change speaks of are there
abbrev pub SpeaksOfWhatIsThere : FileTree ℕ → Change ℕ → Type 0
SpeaksOfWhatIsThere files (Make directory name number node) = IsThere files directory
SpeaksOfWhatIsThere files (AddName directory name object) = IsThere files directory × IsThere files object
SpeaksOfWhatIsThere files (Remove directory name object) = IsThere files directory
SpeaksOfWhatIsThere files (Move from old to new object) = (entry_at files.tree from old ≡ Some object)
    × IsThere files to
SpeaksOfWhatIsThere files (SetBytes file bytes) = IsThere files file
SpeaksOfWhatIsThere files (SetAttr object attr) = IsThere files object
SpeaksOfWhatIsThere files (SetMark directory opaque) = IsThere files directory
SpeaksOfWhatIsThere files (CopyUp object) = IsThere files object

-- an inode of the upper layer that is the real object of an inode of the overlay, with or without a name
abbrev pub IsUpperObject : Overlay ℕ → ℕ → Type 0
IsUpperObject overlay object = (number : ℕ) × (overlay.real number ≡ Some (Upper object))

-- A change through an overlay writes to new inodes and to the overlay's own objects in the upper layer: every other
-- inode of that filesystem, and so a lower layer in it, is as it was.
abbrev pub UpperFilesystemKeepsTheRest : Type 0
UpperFilesystemKeepsTheRest =
    (fresh : Fresh ℕ) (world : World ℕ) (location : Location ℕ) (change : Change ℕ) (overlay : Overlay ℕ)
    (upper : Layer ℕ) (inode : ℕ)
    → IsWorld nat_eq world
    → (filesystem_at nat_eq world location).overlay ≡ Some overlay → overlay.upper ≡ Some upper
    → SpeaksOfWhatIsThere (files_at nat_eq world location) change
    → ((k : ℕ) → inode ≢ fresh k) → ¬ (IsUpperObject overlay inode)
    → IsKept (inode_in world upper.filesystem inode)
    (inode_in (with_change nat_eq fresh world location change) upper.filesystem inode)
