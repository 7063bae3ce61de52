-- Overlays that are left with their layers, and forget nodes at the most.
use Rattle.std.specs.Prelude.{All, Contains, None, Option, Some, ⊤, ◌≡◌}
use Rattle.vt_location.specs.declared.locations.NodeRef.{NodeRef}
use Rattle.vt_layered.specs.LayeredValue.{Above}
use Rattle.vt_store.specs.OverlaysValue.{OverlayEntry, Overlays}
use Rattle.vt_store.specs.Pins.{Pins, Unpins}
use Rattle.vt_store.specs.StoreValue.{StoreValue}
use Rattle.vt_kept_nodes.specs.Counted.{AreApart, CountNodes, Located, Unnamed}
use Rattle.vt_kept_nodes.specs.Forgetting.{Forgets}

-- beside its layers an overlay has the work directory that it had, and some of its nodes
abbrev pub AboveForgets : Option Above → Option Above → Type 0
AboveForgets None None = ⊤
AboveForgets None (Some new) = ⊥
AboveForgets (Some old) None = ⊥
AboveForgets (Some old) (Some new) = (new.work ≡ old.work) × Forgets old.nodes new.nodes

-- an overlay is left of another one
pub record IsLeftOf (old new : OverlayEntry) : Type 0 where
  pub count : new.count ≡ old.count
  pub overlay : new.overlay ≡ old.overlay
  pub above : AboveForgets old.above new.above

-- each is one that was there
abbrev pub AreLeftOf : Overlays → Overlays → Type 0
AreLeftOf old new = All (λ entry. (was : OverlayEntry) × Contains old was × IsLeftOf was entry) new

-- So it is after a pin, after an unpin,
abbrev pub PinsLeaveOverlays : Type 0
PinsLeaveOverlays =
    (node : NodeRef) (old new : StoreValue) → AreApart old.overlays → Pins node old new
    → AreLeftOf old.overlays new.overlays

abbrev pub UnpinsLeaveOverlays : Type 0
UnpinsLeaveOverlays =
    (unnamed : Unnamed) (on : Located) (node : NodeRef) (old new : StoreValue) → AreApart old.overlays
    → CountNodes unnamed on old.overlays → Unpins node old new → AreLeftOf old.overlays new.overlays

-- and after both.
abbrev pub LeavingGoesOn : Type 0
LeavingGoesOn =
    (first mid last : Overlays) → AreLeftOf first mid → AreLeftOf mid last → AreLeftOf first last
