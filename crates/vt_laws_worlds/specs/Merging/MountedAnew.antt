-- Overlays that are mounted, and mounted anew, in the world that the call leaves: mount(2), and the kernel's overlayfs
-- document, "upper and lower" and "changes to underlying filesystems".
use Rattle.std.specs.Prelude.{All, List, Ok, Option, Some, map, nat_eq, ℕ, ◌≡◌, ◌↔◌}
use Rattle.vt_spec.specs.Language.Answers.Answer.{Done}
use Rattle.vt_spec.specs.Language.Calls.{MountFlags, OverlayWords, TaskName}
use Rattle.vt_spec.specs.Language.Calls.Call.{MountOverlay}
use Rattle.vt_spec.specs.Lists.{Fresh, evens}
use Rattle.vt_spec.specs.Machine.Invariants.{IsWorld, OverlayInvariants, TreeInvariants, number_at_path}
use Rattle.vt_spec.specs.Machine.Looks.{looks_of}
use Rattle.vt_spec.specs.Machine.Rules.Mounting.{LayerLocations, layers_walked, overlay_at}
use Rattle.vt_spec.specs.Machine.Policy.{call_outcome, numbers_raised, policy}
use Rattle.vt_spec.specs.Machine.Run.{Serves}
use Rattle.vt_spec.specs.Machine.Settled.{settled}
use Rattle.vt_spec.specs.Machine.World.{Filesystem, Layer, Overlay, Task, World, filesystem_numbered, layers_of, open_layer, shown_layers, task_called}
use Rattle.vt_spec.specs.TreeInvariant.{IsReached}
use Rattle.vt_laws_trees.specs.Layers.Layers.Mounted.{AreAsOthers, ShowTheSame}
use Rattle.vt_laws_trees.specs.Layers.Layers.Mounting.{AreNewNumbers, OfMounting}

-- `mount overlay`, granted or refused, leaves nothing that nothing uses;
abbrev pub MountingLetsNothingGo : Type 0
MountingLetsNothingGo = OfMounting (λ world. settled nat_eq world ≡ world)

-- so when what nothing uses is gone, trees and overlays have their invariants, the new overlay too.
abbrev pub MountingLeavesTrees : Type 0
MountingLeavesTrees = OfMounting (λ world. TreeInvariants nat_eq (settled nat_eq world))

abbrev pub MountingLeavesOverlays : Type 0
MountingLeavesOverlays = OfMounting (λ world. OverlayInvariants nat_eq (settled nat_eq world))

-- the world that a granted `mount overlay` leaves, its last step done, and the number of the overlay in it
abbrev pub world_mounted : Fresh ℕ → World ℕ → Task ℕ → List ℕ → OverlayWords → MountFlags → World ℕ
world_mounted fresh world task path words flags =
    (policy nat_eq fresh world task.name (MountOverlay path (Some words) flags)).world

abbrev pub number_mounted : Fresh ℕ → ℕ
number_mounted fresh = evens (evens fresh) 0

-- An overlay was left in one world, and a task of another mounts one over layers that lead everywhere to what the
-- first one's led to: it shows the tree that the first one showed, whoever mounts it, and wherever.
abbrev pub MountedAnewShowsTheSame : Type 0
MountedAnewShowsTheSame =
    (fresh : Fresh ℕ) (before later : World ℕ) (number : ℕ) (left : Overlay ℕ) (task : Task ℕ) (path : List ℕ)
    (words : OverlayWords) (flags : MountFlags) (places : LayerLocations ℕ)
    → IsWorld nat_eq before → (filesystem_numbered nat_eq before number).overlay ≡ Some left
    → IsWorld nat_eq later → AreNewNumbers fresh later → task_called later task.name ≡ Some task
    → (policy nat_eq fresh later task.name (MountOverlay path (Some words) flags)).answer ≡ Ok Done
    → layers_walked nat_eq (looks_of nat_eq later) task words ≡ Ok places
    → AreAsOthers (map (open_layer nat_eq before) (shown_layers left))
    (map (open_layer nat_eq later) (shown_layers (overlay_at (looks_of nat_eq later) task places)))
    → ShowTheSame (filesystem_numbered nat_eq (world_mounted fresh later task path words flags) (number_mounted fresh))
    (filesystem_numbered nat_eq before number)

-- layers that are directories of trees that were not changed
abbrev pub AreKept : World ℕ → World ℕ → List (Layer ℕ) → Type 0
AreKept before later layers =
    All (λ (layer : Layer ℕ). (filesystem_numbered nat_eq later layer.filesystem).files.tree
    ≡ (filesystem_numbered nat_eq before layer.filesystem).files.tree) layers

-- So over the same layers, where their trees were not changed.
abbrev pub MountedOverTheSameLayers : Type 0
MountedOverTheSameLayers =
    (fresh : Fresh ℕ) (before later : World ℕ) (number : ℕ) (left : Overlay ℕ) (task : Task ℕ) (path : List ℕ)
    (words : OverlayWords) (flags : MountFlags) (places : LayerLocations ℕ)
    → IsWorld nat_eq before → (filesystem_numbered nat_eq before number).overlay ≡ Some left
    → IsWorld nat_eq later → AreNewNumbers fresh later → task_called later task.name ≡ Some task
    → (policy nat_eq fresh later task.name (MountOverlay path (Some words) flags)).answer ≡ Ok Done
    → layers_walked nat_eq (looks_of nat_eq later) task words ≡ Ok places
    → shown_layers (overlay_at (looks_of nat_eq later) task places) ≡ shown_layers left
    → AreKept before later (shown_layers left)
    → ShowTheSame (filesystem_numbered nat_eq (world_mounted fresh later task path words flags) (number_mounted fresh))
    (filesystem_numbered nat_eq before number)

-- Two paths lead to one inode, or both nowhere, in one filesystem just where they do in the other: link(2).
abbrev pub LinkTheSame : Filesystem ℕ → Filesystem ℕ → Type 0
LinkTheSame one other =
    (path another : List (List ℕ))
    → (number_at_path one.files path ≡ number_at_path one.files another)
    ↔ (number_at_path other.files path ≡ number_at_path other.files another)

-- Each inode has the names that it had, too, where the upper layer is the one that the first overlay had, or neither
-- has one: what lies only below is one inode for each name of it.
abbrev pub MountedAnewLinksTheSame : Type 0
MountedAnewLinksTheSame =
    (fresh : Fresh ℕ) (before later : World ℕ) (number : ℕ) (left : Overlay ℕ) (task : Task ℕ) (path : List ℕ)
    (words : OverlayWords) (flags : MountFlags) (places : LayerLocations ℕ)
    → IsWorld nat_eq before → (filesystem_numbered nat_eq before number).overlay ≡ Some left
    → IsWorld nat_eq later → AreNewNumbers fresh later → task_called later task.name ≡ Some task
    → (policy nat_eq fresh later task.name (MountOverlay path (Some words) flags)).answer ≡ Ok Done
    → layers_walked nat_eq (looks_of nat_eq later) task words ≡ Ok places
    → (overlay_at (looks_of nat_eq later) task places).upper ≡ left.upper
    → (overlay_at (looks_of nat_eq later) task places).lowers ≡ left.lowers → AreKept before later (shown_layers left)
    → LinkTheSame (filesystem_numbered nat_eq (world_mounted fresh later task path words flags) (number_mounted fresh))
    (filesystem_numbered nat_eq before number)

-- What `mount overlay` of a task of the world leaves, granted or refused, has all invariants: nothing goes, and
-- mounts, namespaces and tasks stay as the invariants ask for.
abbrev pub MountingLeavesAWorld : Type 0
MountingLeavesAWorld =
    (fresh : Fresh ℕ) (world : World ℕ) (task : Task ℕ) (path : List ℕ) (options : Option OverlayWords)
    (flags : MountFlags)
    → IsWorld nat_eq world → Serves nat_eq world fresh → task_called world task.name ≡ Some task
    → IsWorld nat_eq (call_outcome nat_eq fresh world task (MountOverlay path options flags)).world

-- No invariant reads a change number, with overlays or without.
abbrev pub RaisingKeepsWorlds : Type 0
RaisingKeepsWorlds =
    (before : World ℕ) (name : TaskName) (changed : List ℕ) (world : World ℕ)
    → IsWorld nat_eq world → IsWorld nat_eq (numbers_raised nat_eq before name changed world)

-- So the policy leaves a world with all invariants at each `mount overlay`.
abbrev pub PolicyMountsAWorld : Type 0
PolicyMountsAWorld =
    (fresh : Fresh ℕ) (world : World ℕ) (name : TaskName) (path : List ℕ) (options : Option OverlayWords)
    (flags : MountFlags)
    → IsWorld nat_eq world → Serves nat_eq world fresh
    → IsWorld nat_eq (policy nat_eq fresh world name (MountOverlay path options flags)).world

-- The layers that the words of `mount overlay` lead to are directories to which names lead from the root of their
-- tree: W8 refuses one that was removed.
abbrev pub LayersAreReached : Type 0
LayersAreReached =
    (world : World ℕ) (task : Task ℕ) (words : OverlayWords) (places : LayerLocations ℕ)
    → IsWorld nat_eq world → layers_walked nat_eq (looks_of nat_eq world) task words ≡ Ok places
    → All (λ (layer : Layer ℕ).
    IsReached (filesystem_numbered nat_eq world layer.filesystem).files.tree layer.directory)
    (layers_of (overlay_at (looks_of nat_eq world) task places))

-- So they are in the world that a granted call leaves: names lead to the layers of the new overlay.
abbrev pub MountedLayersAreReached : Type 0
MountedLayersAreReached =
    (fresh : Fresh ℕ) (world : World ℕ) (task : Task ℕ) (path : List ℕ) (words : OverlayWords) (flags : MountFlags)
    (places : LayerLocations ℕ)
    → IsWorld nat_eq world → AreNewNumbers fresh world → task_called world task.name ≡ Some task
    → (policy nat_eq fresh world task.name (MountOverlay path (Some words) flags)).answer ≡ Ok Done
    → layers_walked nat_eq (looks_of nat_eq world) task words ≡ Ok places
    → All (λ (layer : Layer ℕ).
    IsReached (filesystem_numbered nat_eq
    (world_mounted fresh world task path words flags) layer.filesystem).files.tree
    layer.directory)
    (layers_of (overlay_at (looks_of nat_eq world) task places))
