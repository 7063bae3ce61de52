-- Which filesystem a granted call on files goes through, and the layers that it leaves as they were: the kernel's
-- overlayfs document, "changes to underlying filesystems" (that a layer in use is locked is the profile's).
use Rattle.std.specs.Prelude.{Bool, Contains, List, None, Ok, Some, [], false, is_some, nat_eq, true, ℕ, ◌∷◌, ◌≡◌, ◌≢◌}
use Rattle.vt_spec.specs.Language.Calls.{Call, TaskName}
use Rattle.vt_spec.specs.Language.Changes.{Change}
use Rattle.vt_spec.specs.Language.Script.{Grammar, request_of}
use Rattle.vt_spec.specs.Language.Script.Request.{Calling}
use Rattle.vt_spec.specs.Lists.{Fresh}
use Rattle.vt_spec.specs.Machine.Invariants.{IsWorld}
use Rattle.vt_spec.specs.Machine.Judge.{judge_in}
use Rattle.vt_spec.specs.Machine.Locked.{lies_or_counts_under}
use Rattle.vt_spec.specs.Machine.Mounts.{Location}
use Rattle.vt_spec.specs.Machine.Permits.{Permit}
use Rattle.vt_spec.specs.Machine.Policy.{call_outcome, policy}
use Rattle.vt_spec.specs.Machine.Run.{Serves, line_step, step_world}
use Rattle.vt_spec.specs.Machine.World.{Layer, Overlay, Task, World, filesystem_at, filesystem_numbered, is_overlay, layers_of, mount_at, opening, task_called}
use Rattle.vt_laws_trees.specs.Trees.Limits.{names_few_groups}
use Rattle.vt_laws_trees.specs.Layers.Layers.Locked.{GoesThrough, LeadsAsBefore}
use Rattle.vt_laws_trees.specs.Layers.Layers.Untouched.{IsKept, changes_no_mount}
use Rattle.vt_laws_worlds.specs.Worlds.Calls.{LeadsTo}
use Rattle.vt_laws_worlds.specs.OverlayPermits.Asked.{change_asked}
use Rattle.vt_laws_worlds.specs.OverlayPermits.LockedOverScripts.{is_live}
use Rattle.vt_laws_trees.specs.Trees.Settling.{inode_in}

-- A granted call that changes something goes through the filesystem of the location that it changes. (The world is the
-- one before what nothing uses any more is let go.)
abbrev pub CallsGoThroughTheirLocation : Type 0
CallsGoThroughTheirLocation =
    (world : World ℕ) (fresh : Fresh ℕ) (task : Task ℕ) (call : Call) (permit : Permit ℕ) (location : Location ℕ)
    (change : Change ℕ)
    → IsWorld nat_eq world → Serves nat_eq world fresh → task_called world task.name ≡ Some task
    → judge_in nat_eq fresh world task call ≡ Ok permit → change_asked fresh world permit ≡ Some (location, change)
    → GoesThrough fresh world (call_outcome nat_eq fresh world task call).world
    (mount_at nat_eq world location).filesystem

-- One on files that asks for no change leaves all filesystems.
abbrev pub OtherCallsLeaveFilesystems : Type 0
OtherCallsLeaveFilesystems =
    (world : World ℕ) (fresh : Fresh ℕ) (task : Task ℕ) (call : Call) (permit : Permit ℕ)
    → judge_in nat_eq fresh world task call ≡ Ok permit → change_asked fresh world permit ≡ None
    → changes_no_mount call ≡ true
    → (call_outcome nat_eq fresh world task call).world.filesystems ≡ world.filesystems

-- Every path leads from a layer's directory where it led, to what is as it was; and so is all that lies or counts under
-- it.
pub record LayerStays (world later : World ℕ) (layer : Layer ℕ) : Type 0 where
  pub paths : LeadsAsBefore world later layer
  pub inodes : (inode : ℕ) → lies_or_counts_under nat_eq world layer.filesystem inode layer ≡ true
      → is_some (inode_in world layer.filesystem inode) ≡ true
      → IsKept (inode_in world layer.filesystem inode) (inode_in later layer.filesystem inode)

-- So each layer, upper, work or lower, of every overlay stays in which nothing is changed,
abbrev pub CallsLeaveOtherLayers : Type 0
CallsLeaveOtherLayers =
    (world : World ℕ) (fresh : Fresh ℕ) (task : Task ℕ) (call : Call) (permit : Permit ℕ) (location : Location ℕ)
    (change : Change ℕ)
    (number : ℕ) (overlay : Overlay ℕ) (layer : Layer ℕ)
    → IsWorld nat_eq world → Serves nat_eq world fresh → task_called world task.name ≡ Some task
    → judge_in nat_eq fresh world task call ≡ Ok permit → change_asked fresh world permit ≡ Some (location, change)
    → number ≢ (mount_at nat_eq world location).filesystem
    → (filesystem_numbered nat_eq world number).overlay ≡ Some overlay
    → Contains (layers_of overlay) layer
    → LayerStays world (call_outcome nat_eq fresh world task call).world layer

-- and of all overlays, where what is changed is on a plain filesystem.
abbrev pub PlainCallsLeaveLayers : Type 0
PlainCallsLeaveLayers =
    (world : World ℕ) (fresh : Fresh ℕ) (task : Task ℕ) (call : Call) (permit : Permit ℕ) (location : Location ℕ)
    (change : Change ℕ)
    (number : ℕ) (overlay : Overlay ℕ) (layer : Layer ℕ)
    → IsWorld nat_eq world → Serves nat_eq world fresh → task_called world task.name ≡ Some task
    → judge_in nat_eq fresh world task call ≡ Ok permit → change_asked fresh world permit ≡ Some (location, change)
    → is_overlay (filesystem_at nat_eq world location) ≡ false
    → (filesystem_numbered nat_eq world number).overlay ≡ Some overlay
    → Contains (layers_of overlay) layer
    → LayerStays world (call_outcome nat_eq fresh world task call).world layer

-- No change of the overlay that has this number is granted by the call.
abbrev pub ChangesNothingThrough : World ℕ → Fresh ℕ → TaskName → Call → ℕ → Type 0
ChangesNothingThrough world fresh name call number =
    (task : Task ℕ) (permit : Permit ℕ) (location : Location ℕ) (change : Change ℕ)
    → task_called world name ≡ Some task → judge_in nat_eq fresh world task call ≡ Ok permit
    → change_asked fresh world permit ≡ Some (location, change) → number ≢ (mount_at nat_eq world location).filesystem

-- An overlay of a world is there later, over the same layers, and paths lead from all of them where they led.
pub record LayersStay (world later : World ℕ) (number : ℕ) (overlay : Overlay ℕ) : Type 0 where
  pub after : Overlay ℕ
  pub is : (filesystem_numbered nat_eq later number).overlay ≡ Some after
  pub upper : after.upper ≡ overlay.upper
  pub work : after.work ≡ overlay.work
  pub lowers : after.lowers ≡ overlay.lowers
  pub paths : (layer : Layer ℕ) → Contains (layers_of overlay) layer → LeadsAsBefore world later layer

-- So it is after every call of every task, granted or refused, mount calls among them, that changes nothing through the
-- overlay and leaves it live, when what nothing uses is gone.
abbrev pub EveryCallLeavesOtherLayers : Type 0
EveryCallLeavesOtherLayers =
    (world : World ℕ) (fresh : Fresh ℕ) (name : TaskName) (call : Call) (number : ℕ) (overlay : Overlay ℕ)
    → IsWorld nat_eq world → Serves nat_eq world fresh → names_few_groups call ≡ true
    → (filesystem_numbered nat_eq world number).overlay ≡ Some overlay
    → ChangesNothingThrough world fresh name call number
    → is_live (policy nat_eq fresh world name call).world number ≡ true
    → LayersStay world (policy nat_eq fresh world name call).world number overlay

-- The worlds that lines lead to, where no line changes something through the overlay, and it is live after each. Each
-- line is handed some numbers that are not in use, or was refused memory.
abbrev pub LeadsApart : Grammar → ℕ → World ℕ → List (List ℕ) → List Bool → World ℕ → Type 0
LeadsApart grammar number world [] refused left = left ≡ world
LeadsApart grammar number world (line ∷ lines) [] left = ⊥
LeadsApart grammar number world (line ∷ lines) (true ∷ refused) left =
    (is_live (step_world world (line_step nat_eq grammar world line None)) number ≡ true)
    × LeadsApart grammar number (step_world world (line_step nat_eq grammar world line None)) lines refused left
LeadsApart grammar number world (line ∷ lines) (false ∷ refused) left =
    (fresh : Fresh ℕ) × Serves nat_eq world fresh
    × ((name : TaskName) (call : Call) → request_of grammar line ≡ Some (Calling name call)
    → ChangesNothingThrough world fresh name call number)
    × (is_live (step_world world (line_step nat_eq grammar world line (Some fresh))) number ≡ true)
    × LeadsApart grammar number (step_world world (line_step nat_eq grammar world line (Some fresh))) lines refused left

-- So it is over scripts: where the first lines lead to a world with an overlay, and the next ones change nothing
-- through it and leave it live.
abbrev pub LayersStayOverScripts : Type 0
LayersStayOverScripts =
    (grammar : Grammar) (first next : List (List ℕ)) (refused refused_next : List Bool) (fresh : Fresh ℕ)
    (mounted left : World ℕ)
    (number : ℕ) (overlay : Overlay ℕ)
    → ((j k : ℕ) → fresh j ≡ fresh k → j ≡ k) → LeadsTo grammar (opening nat_eq fresh) first refused mounted
    → (filesystem_numbered nat_eq mounted number).overlay ≡ Some overlay
    → LeadsApart grammar number mounted next refused_next left
    → LayersStay mounted left number overlay
