-- Overlays that are mounted anew in worlds that scripts lead to: mount(2), and the kernel's overlayfs document, "upper
-- and lower" and "changes to underlying filesystems".
use Rattle.std.specs.Prelude.{Bool, List, Ok, Some, map, nat_eq, ℕ, ◌≡◌}
use Rattle.vt_spec.specs.Language.Answers.Answer.{Done}
use Rattle.vt_spec.specs.Language.Calls.{MountFlags, OverlayWords}
use Rattle.vt_spec.specs.Language.Calls.Call.{MountOverlay}
use Rattle.vt_spec.specs.Language.Script.{Grammar}
use Rattle.vt_spec.specs.Lists.{Fresh}
use Rattle.vt_spec.specs.Machine.Looks.{looks_of}
use Rattle.vt_spec.specs.Machine.Rules.Mounting.{LayerLocations, layers_walked, overlay_at}
use Rattle.vt_spec.specs.Machine.Policy.{policy}
use Rattle.vt_spec.specs.Machine.World.{Overlay, Task, World, filesystem_numbered, open_layer, opening, shown_layers, task_called}
use Rattle.vt_laws_trees.specs.Layers.Layers.Mounted.{AreAsOthers, ShowTheSame}
use Rattle.vt_laws_trees.specs.Layers.Layers.Mounting.{AreNewNumbers}
use Rattle.vt_laws_worlds.specs.Merging.MountedAnew.{AreKept, LinkTheSame, number_mounted, world_mounted}
use Rattle.vt_laws_worlds.specs.Worlds.Calls.{LeadsTo}

-- a world that some script leads to, in whatever grammar, from an opening world with numbers that are no number twice
pub record IsLedTo (world : World ℕ) : Type 0 where
  pub grammar : Grammar
  pub lines : List (List ℕ)
  pub refused : List Bool
  pub fresh : Fresh ℕ
  pub apart : (j k : ℕ) → fresh j ≡ fresh k → j ≡ k
  pub leads : LeadsTo grammar (opening nat_eq fresh) lines refused world

-- An overlay stands in a world that a script leads to, and a task of another such world, that the same script leads to
-- later or any other, mounts one over layers that lead everywhere to what the first one's led to: it shows the tree
-- that the first one showed.
abbrev pub MountedAnewOverScripts : Type 0
MountedAnewOverScripts =
    (fresh : Fresh ℕ) (before later : World ℕ) (number : ℕ) (left : Overlay ℕ) (task : Task ℕ) (path : List ℕ)
    (words : OverlayWords) (flags : MountFlags) (places : LayerLocations ℕ)
    → IsLedTo before → (filesystem_numbered nat_eq before number).overlay ≡ Some left
    → IsLedTo later → AreNewNumbers fresh later → task_called later task.name ≡ Some task
    → (policy nat_eq fresh later task.name (MountOverlay path (Some words) flags)).answer ≡ Ok Done
    → layers_walked nat_eq (looks_of nat_eq later) task words ≡ Ok places
    → AreAsOthers (map (open_layer nat_eq before) (shown_layers left))
    (map (open_layer nat_eq later) (shown_layers (overlay_at (looks_of nat_eq later) task places)))
    → ShowTheSame (filesystem_numbered nat_eq (world_mounted fresh later task path words flags) (number_mounted fresh))
    (filesystem_numbered nat_eq before number)

-- So over the same layers, where their trees were not changed.
abbrev pub SameLayersOverScripts : Type 0
SameLayersOverScripts =
    (fresh : Fresh ℕ) (before later : World ℕ) (number : ℕ) (left : Overlay ℕ) (task : Task ℕ) (path : List ℕ)
    (words : OverlayWords) (flags : MountFlags) (places : LayerLocations ℕ)
    → IsLedTo before → (filesystem_numbered nat_eq before number).overlay ≡ Some left
    → IsLedTo later → AreNewNumbers fresh later → task_called later task.name ≡ Some task
    → (policy nat_eq fresh later task.name (MountOverlay path (Some words) flags)).answer ≡ Ok Done
    → layers_walked nat_eq (looks_of nat_eq later) task words ≡ Ok places
    → shown_layers (overlay_at (looks_of nat_eq later) task places) ≡ shown_layers left
    → AreKept before later (shown_layers left)
    → ShowTheSame (filesystem_numbered nat_eq (world_mounted fresh later task path words flags) (number_mounted fresh))
    (filesystem_numbered nat_eq before number)

-- Each inode has the names that it had, too, where the upper layer is the one that the first overlay had, or neither
-- has one.
abbrev pub LinksOverScripts : Type 0
LinksOverScripts =
    (fresh : Fresh ℕ) (before later : World ℕ) (number : ℕ) (left : Overlay ℕ) (task : Task ℕ) (path : List ℕ)
    (words : OverlayWords) (flags : MountFlags) (places : LayerLocations ℕ)
    → IsLedTo before → (filesystem_numbered nat_eq before number).overlay ≡ Some left
    → IsLedTo later → AreNewNumbers fresh later → task_called later task.name ≡ Some task
    → (policy nat_eq fresh later task.name (MountOverlay path (Some words) flags)).answer ≡ Ok Done
    → layers_walked nat_eq (looks_of nat_eq later) task words ≡ Ok places
    → (overlay_at (looks_of nat_eq later) task places).upper ≡ left.upper
    → (overlay_at (looks_of nat_eq later) task places).lowers ≡ left.lowers → AreKept before later (shown_layers left)
    → LinkTheSame (filesystem_numbered nat_eq (world_mounted fresh later task path words flags) (number_mounted fresh))
    (filesystem_numbered nat_eq before number)
