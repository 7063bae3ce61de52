-- What lies or counts under a layer of a live overlay is changed by nobody but the overlay itself, and only in its
-- upper layer: the kernel's overlayfs document, "changes to underlying filesystems" (that a layer in use is locked is
-- the profile's).
use Rattle.std.specs.Prelude.{Contains, List, None, Some, nat_eq, true, ℕ, ◌≡◌, ◌≢◌}
use Rattle.vt_spec.specs.Language.Calls.{Call}
use Rattle.vt_spec.specs.Lists.{Fresh}
use Rattle.vt_spec.specs.Machine.Layers.{at_path, node_at_path}
use Rattle.vt_spec.specs.Machine.Locked.{lies_or_counts_under, upper_and_work}
use Rattle.vt_spec.specs.Machine.Policy.{call_outcome}
use Rattle.vt_spec.specs.Machine.World.{Layer, Overlay, Task, World, filesystem_numbered, open_layer, task_called}
use Rattle.vt_spec.specs.Machine.Invariants.{IsWorld}
use Rattle.vt_laws_trees.specs.Layers.Layers.Untouched.{IsKept, changes_no_mount}
use Rattle.vt_laws_trees.specs.Layers.Layers.Upper.{IsUpperObject}
use Rattle.vt_laws_trees.specs.Trees.Settling.{inode_in}

-- Every call of every task that changes no mount by its own, granted or refused, leaves what lies under a lower layer
-- of a live overlay. (The world is the one before what nothing uses any more is let go.)
abbrev pub LowerLayersAreLocked : Type 0
LowerLayersAreLocked =
    (fresh : Fresh ℕ) (world : World ℕ) (task : Task ℕ) (call : Call) (number : ℕ) (overlay : Overlay ℕ)
    (lower : Layer ℕ) (inode : ℕ)
    → IsWorld nat_eq world → task_called world task.name ≡ Some task → changes_no_mount call ≡ true
    → (filesystem_numbered nat_eq world number).overlay ≡ Some overlay → Contains overlay.lowers lower
    → lies_or_counts_under nat_eq world lower.filesystem inode lower ≡ true → ((k : ℕ) → inode ≢ fresh k)
    → IsKept (inode_in world lower.filesystem inode)
    (inode_in (call_outcome nat_eq fresh world task call).world lower.filesystem inode)

-- Every filesystem is as it was but one, and that of its upper layer if it is an overlay; and of every other overlay
-- what lies or counts under the upper or work directory stays.
pub record GoesThrough (fresh : Fresh ℕ) (world later : World ℕ) (through : ℕ) : Type 0 where
  pub elsewhere : (number : ℕ) → number ≢ through
      → ((overlay : Overlay ℕ) (upper : Layer ℕ)
      → (filesystem_numbered nat_eq world through).overlay ≡ Some overlay → overlay.upper ≡ Some upper
      → number ≢ upper.filesystem)
      → filesystem_numbered nat_eq later number ≡ filesystem_numbered nat_eq world number
  pub others : (number : ℕ) (overlay : Overlay ℕ) (layer : Layer ℕ) (inode : ℕ) → number ≢ through
      → (filesystem_numbered nat_eq world number).overlay ≡ Some overlay → Contains (upper_and_work overlay) layer
      → lies_or_counts_under nat_eq world layer.filesystem inode layer ≡ true → ((k : ℕ) → inode ≢ fresh k)
      → IsKept (inode_in world layer.filesystem inode) (inode_in later layer.filesystem inode)

abbrev pub CallsGoThroughOne : Type 0
CallsGoThroughOne =
    (fresh : Fresh ℕ) (world : World ℕ) (task : Task ℕ) (call : Call)
    → IsWorld nat_eq world → task_called world task.name ≡ Some task → changes_no_mount call ≡ true
    → (through : ℕ) × GoesThrough fresh world (call_outcome nat_eq fresh world task call).world through

-- the upper objects of an overlay, named or not, count under its upper directory
abbrev pub UpperObjectsCount : Type 0
UpperObjectsCount =
    (world : World ℕ) (number : ℕ) (overlay : Overlay ℕ) (upper : Layer ℕ) (object : ℕ)
    → IsWorld nat_eq world → (filesystem_numbered nat_eq world number).overlay ≡ Some overlay
    → overlay.upper ≡ Some upper
    → IsUpperObject overlay object → lies_or_counts_under nat_eq world upper.filesystem object upper ≡ true

-- Every path leads from the layer's directory where it led, and what is there is as it was.
abbrev pub LeadsAsBefore : World ℕ → World ℕ → Layer ℕ → Type 0
LeadsAsBefore world later layer =
    (path : List (List ℕ))
    → (at_path (open_layer nat_eq later layer) path ≡ at_path (open_layer nat_eq world layer) path)
    × IsKept (node_at_path (open_layer nat_eq world layer) path) (node_at_path (open_layer nat_eq later layer) path)

-- no inode of a filesystem has one of these numbers
abbrev pub AreNoInodes : Fresh ℕ → World ℕ → ℕ → Type 0
AreNoInodes fresh world filesystem = (k : ℕ) → inode_in world filesystem (fresh k) ≡ None

-- So do paths from a lower layer of a live overlay, after every such call,
abbrev pub LowerPathsAreLocked : Type 0
LowerPathsAreLocked =
    (fresh : Fresh ℕ) (world : World ℕ) (task : Task ℕ) (call : Call) (number : ℕ) (overlay : Overlay ℕ)
    (lower : Layer ℕ)
    → IsWorld nat_eq world → task_called world task.name ≡ Some task → changes_no_mount call ≡ true
    → (filesystem_numbered nat_eq world number).overlay ≡ Some overlay → Contains overlay.lowers lower
    → AreNoInodes fresh world lower.filesystem
    → LeadsAsBefore world (call_outcome nat_eq fresh world task call).world lower

-- and from an upper or work directory, after each that does not go through its own overlay: through a plain mount, or
-- another overlay.
abbrev pub OtherPathsStay : Type 0
OtherPathsStay =
    (fresh : Fresh ℕ) (world : World ℕ) (task : Task ℕ) (call : Call) (through number : ℕ) (overlay : Overlay ℕ)
    (layer : Layer ℕ)
    → IsWorld nat_eq world → GoesThrough fresh world (call_outcome nat_eq fresh world task call).world through
    → number ≢ through → (filesystem_numbered nat_eq world number).overlay ≡ Some overlay
    → Contains (upper_and_work overlay) layer → AreNoInodes fresh world layer.filesystem
    → LeadsAsBefore world (call_outcome nat_eq fresh world task call).world layer
