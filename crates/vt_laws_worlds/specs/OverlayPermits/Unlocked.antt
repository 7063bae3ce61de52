-- What is locked is spared by what a permit asks for: the kernel's overlayfs document, "changes to underlying
-- filesystems" (that a layer in use is locked is the profile's).
use Rattle.std.specs.Prelude.{None, Ok, Option, Some, false, is_some, nat_eq, not, true, ℕ, ⊤, ◌≡◌, ◌≢◌}
use Rattle.vt_spec.specs.FileTree.{FileTree}
use Rattle.vt_spec.specs.Language.Calls.{Call}
use Rattle.vt_spec.specs.Language.Changes.{Change}
use Rattle.vt_spec.specs.Language.Changes.Change.{AddName, CopyUp, Make, Move, Remove, SetAttr, SetBytes, SetMark}
use Rattle.vt_spec.specs.Lists.{Fresh}
use Rattle.vt_spec.specs.Machine.Invariants.{IsWorld}
use Rattle.vt_spec.specs.Machine.Judge.{judge_in}
use Rattle.vt_spec.specs.Machine.Locked.{is_locked, overlay_or}
use Rattle.vt_spec.specs.Machine.Mounts.{Location}
use Rattle.vt_spec.specs.Machine.Permits.{Permit}
use Rattle.vt_spec.specs.Machine.Run.{Serves}
use Rattle.vt_spec.specs.Machine.World.{Overlay, Task, World, files_at, filesystem_at, mount_at, task_called}
use Rattle.vt_spec.specs.TreeInvariant.{entry_at}
use Rattle.vt_laws_worlds.specs.OverlayPermits.Asked.{change_asked}

-- A change does not write to an inode, and takes no name from it.
abbrev pub SparesInode : FileTree ℕ → Change ℕ → ℕ → Type 0
SparesInode files (Make directory name number node) inode = inode ≢ directory
SparesInode files (AddName directory name object) inode = inode ≢ directory
SparesInode files (Remove directory name object) inode = (inode ≢ directory) × (inode ≢ object)
SparesInode files (Move from old to new object) inode =
    (inode ≢ from) × (inode ≢ to) × (inode ≢ object) × (entry_at files.tree to new ≢ Some inode)
SparesInode files (SetBytes file bytes) inode = inode ≢ file
SparesInode files (SetAttr object attr) inode = inode ≢ object
SparesInode files (SetMark directory opaque) inode = inode ≢ directory
SparesInode files (CopyUp object) inode = ⊤

-- F2: what is made in an overlay is made in its upper layer
abbrev pub HasLayerFor : World ℕ → Location ℕ → Change ℕ → Type 0
HasLayerFor world location (Make directory name number node) =
    overlay_or false (λ (overlay : Overlay ℕ). not (is_some overlay.upper))
    (filesystem_at nat_eq world location).overlay ≡ false
HasLayerFor world location change = ⊤

-- L1: a change spares what is locked in its filesystem
pub record SparesLocked (world : World ℕ) (location : Location ℕ) (change : Change ℕ) : Type 0 where
  pub spares : (inode : ℕ) → is_locked nat_eq world (mount_at nat_eq world location).filesystem inode ≡ true
      → SparesInode (files_at nat_eq world location) change inode
  pub layer : HasLayerFor world location change

abbrev pub SparesLockedIf : World ℕ → Option (Location ℕ × Change ℕ) → Type 0
SparesLockedIf world None = ⊤
SparesLockedIf world (Some made) = SparesLocked world made.0 made.1

abbrev pub PermitsSpareWhatIsLocked : Type 0
PermitsSpareWhatIsLocked =
    (world : World ℕ) (fresh : Fresh ℕ) (task : Task ℕ) (call : Call) (permit : Permit ℕ) → IsWorld nat_eq world
    → Serves nat_eq world fresh → task_called world task.name ≡ Some task
    → judge_in nat_eq fresh world task call ≡ Ok permit → SparesLockedIf world (change_asked fresh world permit)
