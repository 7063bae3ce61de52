-- What the overlays of a store count of their nodes without a name: the locations on them. path_resolution(7), open(2) and
-- close(2) of what has lost its name.
use Rattle.std.specs.Prelude.{All, Bool, None, Option, Some, false, if◌then◌else◌, nat_eq, true, ⊤, ℕ, ◌<◌, ◌≡◌}
use Rattle.vt_spec.specs.Lists.{any_pair}
use Rattle.vt_births.specs.Births.{AreOneToOne}
use Rattle.vt_births.specs.declared.upper_nodes.UpperNodes.{UpperNodes}
use Rattle.vt_location.specs.declared.locations.NodeRef.{NodeRef}
use Rattle.vt_location.specs.declared.numbers.FilesystemId.{FilesystemId}
use Rattle.vt_location.specs.Locations.{is_small_node, number_of}
use Rattle.vt_location.specs.Numbers.{counted}
use Rattle.vt_layered.specs.LayeredValue.{Above}
use Rattle.vt_layered.specs.Locations.{AreUsed, CountsLocations, with_one_on, without_one_on}
use Rattle.vt_store.specs.OverlaysValue.{OverlayEntry, Overlays}
use Rattle.vt_store.specs.Pins.{Pins, Unpins}
use Rattle.vt_store.specs.StoreValue.{StoreValue}

-- which inodes are without a name, and how many locations are on each, by the numbers of filesystems
abbrev pub Unnamed : Type 0
Unnamed = ℕ → ℕ → Bool

abbrev pub Located : Type 0
Located = ℕ → ℕ → ℕ

-- one location more on a node, and one less
abbrev pub located_by : ((ℕ → ℕ) → ℕ → ℕ) → NodeRef → Located → Located
located_by change node on filesystem =
    if nat_eq (counted node.filesystem.count) filesystem then change (on filesystem) else on filesystem

abbrev pub with_location_on : NodeRef → Located → Located
with_location_on node = located_by (with_one_on (number_of node)) node

abbrev pub without_location_on : NodeRef → Located → Located
without_location_on node = located_by (without_one_on (number_of node)) node

-- The nodes of an overlay are its own and have births one-to-one; those without a name have as many uses as locations are
-- on them, and what is kept has uses.
pub record CountsNodes (unnamed : Unnamed) (on : Located) (count : ℕ) (overlay : FilesystemId) (nodes : UpperNodes)
    : Type 0 where
  pub own : overlay ≡ record { count = count }
  pub births : AreOneToOne nodes.births
  pub used : AreUsed nodes.kept
  pub counts : CountsLocations overlay (unnamed (counted count)) (on (counted count)) nodes

-- A read-only overlay counts nothing.
abbrev pub CountsAbove : Unnamed → Located → OverlayEntry → Option Above → Type 0
CountsAbove unnamed on entry None = ⊤
CountsAbove unnamed on entry (Some above) = CountsNodes unnamed on entry.count entry.overlay.number above.nodes

abbrev pub CountNodes : Unnamed → Located → Overlays → Type 0
CountNodes unnamed on overlays = All (λ entry. CountsAbove unnamed on entry entry.above) overlays

-- no two overlays have one count
abbrev pub AreApart : Overlays → Type 0
AreApart overlays = any_pair (λ a b. nat_eq a.count b.count) overlays ≡ false

-- what is said of a store that counts so, and of a node in it
abbrev pub OfCounted : (Unnamed → Located → NodeRef → StoreValue → StoreValue → Type 0) → Type 0
OfCounted Said =
    (unnamed : Unnamed) (on : Located) (node : NodeRef) (old new : StoreValue)
    → is_small_node node ≡ true → AreApart old.overlays → CountNodes unnamed on old.overlays
    → Said unnamed on node old new

-- A location comes with a pin, if the node is there: an unnamed one is there while a location is on it;
abbrev pub PinsAreCounted : Type 0
PinsAreCounted =
    OfCounted (λ unnamed on node old new.
    (unnamed (counted node.filesystem.count) (number_of node) ≡ true
    → 0 < on (counted node.filesystem.count) (number_of node))
    → Pins node old new → CountNodes unnamed (with_location_on node on) new.overlays)

-- and goes as that is taken back.
abbrev pub UnpinsAreCounted : Type 0
UnpinsAreCounted =
    OfCounted (λ unnamed on node old new.
    Unpins node old new → CountNodes unnamed (without_location_on node on) new.overlays)
