-- Lower layers are locked from the mounting of an overlay until it is no longer live, over whole scripts: the kernel's
-- overlayfs document, "changes to underlying filesystems" (that a layer in use is locked is the profile's).
use Rattle.std.specs.Prelude.{Bool, Contains, List, None, Some, [], false, nat_eq, true, ℕ, ◌≡◌, ◌∷◌}
use Rattle.vt_spec.specs.Language.Calls.{Call, TaskName}
use Rattle.vt_spec.specs.Language.Script.{Grammar}
use Rattle.vt_spec.specs.Lists.{Fresh}
use Rattle.vt_spec.specs.Machine.Invariants.{IsWorld}
use Rattle.vt_spec.specs.Machine.Locked.{lies_or_counts_under}
use Rattle.vt_spec.specs.Machine.Policy.{policy}
use Rattle.vt_spec.specs.Machine.Run.{Serves, line_step, step_world}
use Rattle.vt_spec.specs.Machine.World.{Layer, Overlay, World, filesystem_numbered, is_overlay, opening}
use Rattle.vt_laws_trees.specs.Trees.Limits.{names_few_groups}
use Rattle.vt_laws_trees.specs.Layers.Layers.Locked.{LeadsAsBefore}
use Rattle.vt_laws_trees.specs.Layers.Layers.Untouched.{IsKept}
use Rattle.vt_laws_worlds.specs.Worlds.Calls.{LeadsTo}
use Rattle.vt_laws_trees.specs.Trees.Settling.{inode_in}

-- the overlay of this number is live
abbrev pub is_live : World ℕ → ℕ → Bool
is_live world number = is_overlay (filesystem_numbered nat_eq world number)

-- An overlay of a world is there later, over the same layers. Every path leads from a lower layer's directory where it
-- led, and what is there keeps kind, owner and mode, names, bytes and mark; so does all that lies or counts under the
-- layer, which lies there later too.
pub record LowersStay (world later : World ℕ) (number : ℕ) (overlay : Overlay ℕ) : Type 0 where
  pub after : Overlay ℕ
  pub is : (filesystem_numbered nat_eq later number).overlay ≡ Some after
  pub upper : after.upper ≡ overlay.upper
  pub work : after.work ≡ overlay.work
  pub lowers : after.lowers ≡ overlay.lowers
  pub paths : (lower : Layer ℕ) → Contains overlay.lowers lower → LeadsAsBefore world later lower
  pub inodes : (lower : Layer ℕ) (inode : ℕ) → Contains overlay.lowers lower
      → lies_or_counts_under nat_eq world lower.filesystem inode lower ≡ true
      → IsKept (inode_in world lower.filesystem inode) (inode_in later lower.filesystem inode)
      × (lies_or_counts_under nat_eq later lower.filesystem inode lower ≡ true)

-- So it is after every call of every task, granted or refused, that leaves the overlay live, when what nothing uses is
-- gone.
abbrev pub EveryCallLeavesLowers : Type 0
EveryCallLeavesLowers =
    (world : World ℕ) (fresh : Fresh ℕ) (name : TaskName) (call : Call) (number : ℕ) (overlay : Overlay ℕ)
    → IsWorld nat_eq world → Serves nat_eq world fresh → names_few_groups call ≡ true
    → (filesystem_numbered nat_eq world number).overlay ≡ Some overlay
    → is_live (policy nat_eq fresh world name call).world number ≡ true
    → LowersStay world (policy nat_eq fresh world name call).world number overlay

-- The worlds that lines lead to, where the overlay is live after each line. Each line is handed some numbers that are
-- not in use, or was refused memory.
abbrev pub LeadsLive : Grammar → ℕ → World ℕ → List (List ℕ) → List Bool → World ℕ → Type 0
LeadsLive grammar number world [] refused left = left ≡ world
LeadsLive grammar number world (line ∷ lines) [] left = ⊥
LeadsLive grammar number world (line ∷ lines) (true ∷ refused) left =
    (is_live (step_world world (line_step nat_eq grammar world line None)) number ≡ true)
    × LeadsLive grammar number (step_world world (line_step nat_eq grammar world line None)) lines refused left
LeadsLive grammar number world (line ∷ lines) (false ∷ refused) left =
    (fresh : Fresh ℕ) × Serves nat_eq world fresh
    × (is_live (step_world world (line_step nat_eq grammar world line (Some fresh))) number ≡ true)
    × LeadsLive grammar number (step_world world (line_step nat_eq grammar world line (Some fresh))) lines refused left

-- Where a script's first lines lead to a world with an overlay, and it is live after each of its next lines, its lower
-- layers are as they were.
abbrev pub LowersStayOverScripts : Type 0
LowersStayOverScripts =
    (grammar : Grammar) (first next : List (List ℕ)) (refused refused_next : List Bool) (fresh : Fresh ℕ)
    (mounted left : World ℕ)
    (number : ℕ) (overlay : Overlay ℕ)
    → ((j k : ℕ) → fresh j ≡ fresh k → j ≡ k) → LeadsTo grammar (opening nat_eq fresh) first refused mounted
    → (filesystem_numbered nat_eq mounted number).overlay ≡ Some overlay
    → LeadsLive grammar number mounted next refused_next left
    → LowersStay mounted left number overlay
