-- Nodes that are pinned and unpinned one after the other, while overlays go: what an event does to what is kept without a
-- name. close(2), umount(2), unshare(2).
use Rattle.std.specs.Prelude.{All, Bool, List, [], filter, map, true, ⊤, ℕ, ◌++◌, ◌+◌, ◌-◌, ◌<◌, ◌∷◌, ◌≡◌}
use Rattle.vt_laws_mounts.specs.Counts.Using.{is_inode}
use Rattle.vt_laws_mounts.specs.LettingGo.Counts.{times}
use Rattle.vt_laws_mounts.specs.LettingGo.OneByOne.{Inode}
use Rattle.vt_location.specs.declared.locations.NodeRef.{NodeRef}
use Rattle.vt_location.specs.Locations.{is_small_node, number_of}
use Rattle.vt_location.specs.Numbers.{counted}
use Rattle.vt_layered.specs.LayeredValue.{LayeredValue}
use Rattle.vt_layered.specs.Pins.{IsPinned, IsUnpinned}
use Rattle.vt_store.specs.OverlaysValue.{OverlayEntry, Overlays}
use Rattle.vt_store.specs.Pins.{ChangesOverlay}
use Rattle.vt_kept_nodes.specs.Counted.{AreApart, CountNodes, Located, Unnamed, with_location_on, without_location_on}
use Rattle.vt_kept_nodes.specs.Left.{AreLeftOf}

-- one use more of a node, or one less
pub data Step : Type 0 where
  Pinned : NodeRef → Step
  Unpinned : NodeRef → Step

abbrev pub node_of_step : Step → NodeRef
node_of_step (Pinned node) = node
node_of_step (Unpinned node) = node

-- overlays with what they are, under their counts
abbrev pub layered_one : OverlayEntry → ℕ × LayeredValue
layered_one entry = (entry.count, record { overlay = entry.overlay; above = entry.above })

abbrev pub of_counts : Overlays → List (ℕ × LayeredValue)
of_counts overlays = map layered_one overlays

-- some of them are left, in their order, however many mounts show them
abbrev pub AreFewer : Overlays → Overlays → Type 0
AreFewer old new = (stays : ℕ × LayeredValue → Bool) × (of_counts new ≡ filter stays (of_counts old))

abbrev pub StepBy : Step → Overlays → Overlays → Type 0
StepBy (Pinned node) old new = ChangesOverlay (IsPinned node) node.filesystem.count old new
StepBy (Unpinned node) old new = ChangesOverlay (IsUnpinned node) node.filesystem.count old new

-- Steps are taken in turn; before each, and after the last one, overlays may go.
abbrev pub NodesChange : List Step → Overlays → Overlays → Type 0
NodesChange [] old new = AreFewer old new
NodesChange (step ∷ rest) old new =
    (from : Overlays) × (to : Overlays) × AreFewer old from × StepBy step from to × NodesChange rest to new

-- Rows of steps are put together.
abbrev pub StepsAreJoined : Type 0
StepsAreJoined =
    (one other : List Step) (first mid last : Overlays)
    → NodesChange one first mid → NodesChange other mid last → NodesChange (one ++ other) first last

-- the locations after a row
abbrev pub located_by_step : Step → Located → Located
located_by_step (Pinned node) on = with_location_on node on
located_by_step (Unpinned node) on = without_location_on node on

abbrev pub located_after : List Step → Located → Located
located_after [] on = on
located_after (step ∷ rest) on = located_after rest (located_by_step step on)

-- what is pinned is there: a node without a name is, while a location is on it
abbrev pub MayTake : Unnamed → Located → Step → Type 0
MayTake unnamed on (Pinned node) =
    unnamed (counted node.filesystem.count) (number_of node) ≡ true
    → 0 < on (counted node.filesystem.count) (number_of node)
MayTake unnamed on (Unpinned node) = ⊤

abbrev pub MayTakeAll : Unnamed → Located → List Step → Type 0
MayTakeAll unnamed on [] = ⊤
MayTakeAll unnamed on (step ∷ rest) = MayTake unnamed on step × MayTakeAll unnamed (located_by_step step on) rest

-- Then the overlays that are left count the locations after the row; they have their layers and some of their nodes, and are
-- apart still.
pub record AreCountedAfter (unnamed : Unnamed) (on : Located) (steps : List Step) (old new : Overlays) : Type 0 where
  pub counts : CountNodes unnamed (located_after steps on) new
  pub left : AreLeftOf old new
  pub apart : AreApart new

abbrev pub StepsAreCounted : Type 0
StepsAreCounted =
    (unnamed : Unnamed) (on : Located) (steps : List Step) (old new : Overlays)
    → All (λ step. is_small_node (node_of_step step) ≡ true) steps → AreApart old → CountNodes unnamed on old
    → MayTakeAll unnamed on steps → NodesChange steps old new → AreCountedAfter unnamed on steps old new

-- a node by the number of its filesystem and its own
abbrev pub inode_of_node : NodeRef → Inode
inode_of_node node = (counted node.filesystem.count, number_of node)

abbrev pub times_on : List NodeRef → ℕ → ℕ → ℕ
times_on nodes filesystem number = times (is_inode filesystem number) (map inode_of_node nodes)

-- After pins, and unpins behind them, so many locations are on an inode.
abbrev pub LocationsAfterSteps : Type 0
LocationsAfterSteps =
    (gained lost : List NodeRef) (on : Located) (filesystem number : ℕ)
    → located_after (map (λ node. Pinned node) gained ++ map (λ node. Unpinned node) lost) on filesystem number
    ≡ (on filesystem number + times_on gained filesystem number) - times_on lost filesystem number
