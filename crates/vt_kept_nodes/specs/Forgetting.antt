-- Nodes that an overlay keeps no more, and their births, after pins and unpins in turn: open(2) and close(2) of what has
-- lost its name.
use Rattle.std.specs.Prelude.{Bool, None, if◌then◌else◌, not, true, ℕ, ◌&&◌, ◌≡◌}
use Rattle.vt_spec.specs.Lists.{holds_of}
use Rattle.vt_births.specs.Births.{AreOneToOne, copy_of, node_of}
use Rattle.vt_births.specs.Kept.{is_kept}
use Rattle.vt_births.specs.KeptObjects.{AreOf}
use Rattle.vt_births.specs.declared.upper_nodes.UpperNodes.{UpperNodes}
use Rattle.vt_location.specs.declared.locations.NodeRef.{NodeRef}
use Rattle.vt_location.specs.declared.numbers.FilesystemId.{FilesystemId}
use Rattle.vt_layered.specs.Locations.{AreUsed}
use Rattle.vt_layered.specs.Pins.{IsPinned, IsUnpinned}

-- a node was kept, and is no more
abbrev pub is_gone : UpperNodes → UpperNodes → NodeRef → Bool
is_gone old new node = is_kept old.kept node && not (is_kept new.kept node)

-- What is kept was kept, and births are forgotten just of nodes that are kept no more.
pub record Forgets (old new : UpperNodes) : Type 0 where
  pub kept : (node : NodeRef) → is_kept new.kept node ≡ true → is_kept old.kept node ≡ true
  pub copies : (node : NodeRef)
      → copy_of new.births node ≡ (if is_gone old new node then None else copy_of old.births node)
  pub nodes : (slot : ℕ)
      → node_of new.births slot
      ≡ (if holds_of (is_gone old new) (node_of old.births slot) then None else node_of old.births slot)

-- A pin forgets nothing,
abbrev pub PinsForgetNothing : Type 0
PinsForgetNothing = (node : NodeRef) (old new : UpperNodes) → IsPinned node old new → Forgets old new

-- an unpin the node itself, with its last use.
abbrev pub LastUsesAreForgotten : Type 0
LastUsesAreForgotten =
    (node : NodeRef) (old new : UpperNodes) → AreUsed old.kept → AreOneToOne old.births → IsUnpinned node old new
    → Forgets old new

-- So it goes on.
abbrev pub ForgettingGoesOn : Type 0
ForgettingGoesOn = (first mid last : UpperNodes) → Forgets first mid → Forgets mid last → Forgets first last

-- Births are one-to-one still,
abbrev pub BirthsStayOneToOne : Type 0
BirthsStayOneToOne = (old new : UpperNodes) → Forgets old new → AreOneToOne old.births → AreOneToOne new.births

-- and what is kept is of the overlay.
abbrev pub KeptStayOwn : Type 0
KeptStayOwn = (overlay : FilesystemId) (old new : UpperNodes) → Forgets old new → AreOf overlay old → AreOf overlay new
