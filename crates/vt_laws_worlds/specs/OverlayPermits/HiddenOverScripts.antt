-- What a change of an overlay hides does not show again while the overlay lives, over whole scripts: the kernel's
-- overlayfs document, "whiteouts and opaque directories".
use Rattle.std.specs.Prelude.{Bool, List, Some, is_some, map, nat_eq, not, Option, true, ℕ, ◌&&◌, ◌≡◌}
use Rattle.vt_spec.specs.Language.Calls.{Call, TaskName}
use Rattle.vt_spec.specs.Language.Script.{Grammar}
use Rattle.vt_spec.specs.Lists.{Fresh}
use Rattle.vt_spec.specs.Machine.Invariants.{IsWorld}
use Rattle.vt_spec.specs.Machine.Layers.{Shown, shown}
use Rattle.vt_spec.specs.Machine.Policy.{policy}
use Rattle.vt_spec.specs.Machine.Run.{Serves}
use Rattle.vt_spec.specs.Machine.World.{Overlay, World, filesystem_numbered, open_layer, opening, shown_layers}
use Rattle.vt_laws_trees.specs.Trees.Limits.{names_few_groups}
use Rattle.vt_laws_worlds.specs.Worlds.Calls.{LeadsTo}
use Rattle.vt_laws_worlds.specs.OverlayPermits.LockedOverScripts.{LeadsLive, is_live}

-- what the layers of an overlay show at a path
abbrev pub shown_in : World ℕ → Overlay ℕ → List (List ℕ) → Option (Shown ℕ)
shown_in world overlay path = shown (map (open_layer nat_eq world) (shown_layers overlay)) path

-- the layer at this place from the top is a lower one
abbrev pub is_lower : Overlay ℕ → ℕ → Bool
is_lower overlay layer = not (is_some overlay.upper && nat_eq layer 0)

-- What a lower layer of the overlay shows at a path in the later world it showed there before: what was hidden by a
-- whiteout, an opaque mark or an upper object is hidden still.
abbrev pub UncoversNothing : World ℕ → World ℕ → ℕ → Overlay ℕ → Type 0
UncoversNothing world later number overlay =
    (after : Overlay ℕ) (path : List (List ℕ)) (seen : Shown ℕ)
    → (filesystem_numbered nat_eq later number).overlay ≡ Some after → is_lower overlay seen.layer ≡ true
    → shown_in later after path ≡ Some seen → shown_in world overlay path ≡ Some seen

-- So it is after every call of every task, granted or refused, that leaves the overlay live, when what nothing uses is
-- gone.
abbrev pub EveryCallUncoversNothing : Type 0
EveryCallUncoversNothing =
    (world : World ℕ) (fresh : Fresh ℕ) (name : TaskName) (call : Call) (number : ℕ) (overlay : Overlay ℕ)
    → IsWorld nat_eq world → Serves nat_eq world fresh → names_few_groups call ≡ true
    → (filesystem_numbered nat_eq world number).overlay ≡ Some overlay
    → is_live (policy nat_eq fresh world name call).world number ≡ true
    → UncoversNothing world (policy nat_eq fresh world name call).world number overlay

-- So it is over scripts: from any line after which the overlay is there to any later one, while it is live.
abbrev pub HiddenOverScripts : Type 0
HiddenOverScripts =
    (grammar : Grammar) (first next : List (List ℕ)) (refused refused_next : List Bool) (fresh : Fresh ℕ)
    (mounted left : World ℕ)
    (number : ℕ) (overlay : Overlay ℕ)
    → ((j k : ℕ) → fresh j ≡ fresh k → j ≡ k) → LeadsTo grammar (opening nat_eq fresh) first refused mounted
    → (filesystem_numbered nat_eq mounted number).overlay ≡ Some overlay
    → LeadsLive grammar number mounted next refused_next left
    → UncoversNothing mounted left number overlay
