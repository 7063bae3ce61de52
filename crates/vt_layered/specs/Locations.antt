-- Uses of nodes that an overlay keeps without a name are the locations on them: path_resolution(7), open(2) and close(2) of
-- what has lost its name.
use Rattle.std.specs.Prelude.{Bool, if◌then◌else◌, nat_eq, nat_lt, true, ℕ, ◌+◌, ◌-◌, ◌<◌, ◌≡◌}
use Rattle.vt_births.specs.Kept.{KeptValue, is_kept, uses_of}
use Rattle.vt_births.specs.declared.upper_nodes.UpperNodes.{UpperNodes}
use Rattle.vt_location.specs.declared.locations.NodeRef.{NodeRef}
use Rattle.vt_location.specs.declared.numbers.FilesystemId.{FilesystemId}
use Rattle.vt_location.specs.Locations.{is_small_node, number_of}
use Rattle.vt_layered.specs.Pins.{IsPinned, IsUnpinned}

-- each node of an overlay that is unnamed has as many uses as locations are on it, and of others none are counted
abbrev pub CountsLocations : FilesystemId → (unnamed : ℕ → Bool) → (on : ℕ → ℕ) → UpperNodes → Type 0
CountsLocations overlay unnamed on nodes =
    (node : NodeRef) → is_small_node node ≡ true → node.filesystem ≡ overlay
    → uses_of nodes.kept node ≡ (if unnamed (number_of node) then on (number_of node) else 0)

-- what is kept has uses
abbrev pub AreUsed : KeptValue → Type 0
AreUsed kept = (node : NodeRef) → is_kept kept node ≡ nat_lt 0 (uses_of kept node)

-- one location more on a node, and one less
abbrev pub with_one_on : ℕ → (ℕ → ℕ) → ℕ → ℕ
with_one_on number on other = if nat_eq number other then on other + 1 else on other

abbrev pub without_one_on : ℕ → (ℕ → ℕ) → ℕ → ℕ
without_one_on number on other = if nat_eq number other then on other - 1 else on other

-- what is said of a node of an overlay
abbrev pub OfNodes : (FilesystemId → (ℕ → Bool) → (ℕ → ℕ) → NodeRef → UpperNodes → UpperNodes → Type 0) → Type 0
OfNodes Said =
    (overlay : FilesystemId) (unnamed : ℕ → Bool) (on : ℕ → ℕ) (node : NodeRef) (old new : UpperNodes)
    → is_small_node node ≡ true → node.filesystem ≡ overlay → CountsLocations overlay unnamed on old
    → Said overlay unnamed on node old new

-- A location comes with a pin, if the node is there: an unnamed one is there while a location is on it;
abbrev pub LocationsComeWithPins : Type 0
LocationsComeWithPins = OfNodes (λ overlay unnamed on node old new.
    IsPinned node old new → (unnamed (number_of node) ≡ true → 0 < on (number_of node))
    → CountsLocations overlay unnamed (with_one_on (number_of node) on) new)

-- and goes as that is taken back.
abbrev pub LocationsGoWithPins : Type 0
LocationsGoWithPins = OfNodes (λ overlay unnamed on node old new.
    IsUnpinned node old new → CountsLocations overlay unnamed (without_one_on (number_of node) on) new)

-- So what is kept has uses still.
abbrev pub PinnedAreUsed : Type 0
PinnedAreUsed = (node : NodeRef) (old new : UpperNodes) → AreUsed old.kept → IsPinned node old new → AreUsed new.kept

abbrev pub UnpinnedAreUsed : Type 0
UnpinnedAreUsed =
    (node : NodeRef) (old new : UpperNodes) → AreUsed old.kept → IsUnpinned node old new → AreUsed new.kept
