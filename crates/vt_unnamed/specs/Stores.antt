-- An event of a store that holds the overlays of a world: nodes are pinned and unpinned as locations come and go.
use Rattle.std.specs.Prelude.{All, List, Some, false, length, map, nat_eq, true, ℕ, ◌++◌, ◌+◌, ◌<◌, ◌≡◌, ◌≤◌}
use Rattle.vt_spec.specs.Language.Changes.{Change}
use Rattle.vt_spec.specs.Lists.{Fresh}
use Rattle.vt_spec.specs.Machine.Invariants.{IsWorld}
use Rattle.vt_spec.specs.Machine.Mounts.{Location}
use Rattle.vt_spec.specs.Machine.Permits.{Permit}
use Rattle.vt_spec.specs.Machine.World.{Task, World, filesystem_at, filesystem_numbered, is_overlay}
use Rattle.vt_laws_kept.specs.Counts.{locations_on}
use Rattle.vt_laws_worlds.specs.Given.LeftWorlds.{IsGivenToTask}
use Rattle.vt_laws_worlds.specs.OverlayPermits.Asked.{change_asked}
use Rattle.vt_laws_worlds.specs.Permits.Left.{left_by}
use Rattle.vt_location.specs.declared.locations.NodeRef.{NodeRef}
use Rattle.vt_location.specs.Locations.{is_small_node}
use Rattle.vt_location.specs.Numbers.{counted}
use Rattle.vt_fs.specs.FilesystemsValue.{Filesystems}
use Rattle.vt_overlay.specs.declared.merge.merging.TheConstants.{MOST_LAYERS}
use Rattle.vt_layered.specs.LayeredTree.{layered_files}
use Rattle.vt_store.specs.OverlaysValue.{OverlayEntry}
use Rattle.vt_store.specs.StoreValue.{StoreValue}
use Rattle.vt_kept_nodes.specs.Counted.{AreApart}
use Rattle.vt_kept_nodes.specs.Turns.{MayTakeAll, NodesChange, Step, node_of_step, times_on}
use Rattle.vt_kept_nodes.specs.Turns.Step.{Pinned, Unpinned}
use Rattle.vt_world.specs.OverlaysKept.Kept.{ShowsLayers}
use Rattle.vt_unnamed.specs.Kept.{KeepTheirUnnamed, unnamed_in, with_its_objects}

-- An overlay is kept under its own number, as the world shows its layers, of which there are not too many; and in the world
-- it has the real objects that these show.
pub record IsHeldAs (world : World ℕ) (plain : Filesystems) (entry : OverlayEntry) : Type 0 where
  pub own : entry.overlay.number ≡ record { count = entry.count }
  pub is : (filesystem_numbered nat_eq world (counted entry.count)).overlay
      ≡ Some (with_its_objects plain entry.overlay entry.above)
  pub shows : ShowsLayers world plain entry.overlay
  pub some : 0 < length entry.overlay.lowers
  pub few : length entry.overlay.lowers ≤ MOST_LAYERS

-- the overlay is there in the world that is left, which shows its layers as they are kept then
pub record IsThereStill (left : World ℕ) (plain : Filesystems) (entry : OverlayEntry) : Type 0 where
  pub there : is_overlay (filesystem_numbered nat_eq left (counted entry.count)) ≡ true
  pub shows : ShowsLayers left plain entry.overlay

-- nodes that are pinned, and then some that are unpinned
abbrev pub exchange : List NodeRef → List NodeRef → List Step
exchange gained lost = map (λ node. Pinned node) gained ++ map (λ node. Unpinned node) lost

-- A permit is given to a task. It changes plain trees alone. The store holds the overlays of the world, and of those that
-- are left nodes are pinned and unpinned as locations come to them and go.
pub record LeavesStore (fresh : Fresh ℕ) (world : World ℕ) (task : Task ℕ) (permit : Permit ℕ) (old new : StoreValue)
    (gained lost : List NodeRef) : Type 0 where
  pub in_world : IsWorld nat_eq world
  pub given : IsGivenToTask fresh world task permit
  pub plain : (location : Location ℕ) (change : Change ℕ)
      → change_asked fresh world permit ≡ Some (location, change)
      → is_overlay (filesystem_at nat_eq world location) ≡ false
  pub before : All (IsHeldAs world old.plain) old.overlays
  pub apart : AreApart old.overlays
  pub unnamed : KeepTheirUnnamed world old
  pub after : All (IsThereStill (left_by fresh world task permit) new.plain) new.overlays
  pub small : All (λ step. is_small_node (node_of_step step) ≡ true) (exchange gained lost)
  pub may : MayTakeAll (unnamed_in world) (locations_on world) (exchange gained lost)
  pub nodes : NodesChange (exchange gained lost) old.overlays new.overlays
  pub located : (filesystem number : ℕ)
      → locations_on world filesystem number + times_on gained filesystem number
      ≡ locations_on (left_by fresh world task permit) filesystem number + times_on lost filesystem number

-- the world has the tree and the real objects that are shown of an overlay
pub record IsShownIn (world : World ℕ) (plain : Filesystems) (entry : OverlayEntry) : Type 0 where
  pub tree : (filesystem_numbered nat_eq world (counted entry.count)).files.tree
      ≡ (layered_files plain entry.overlay entry.above).tree
  pub overlay : (filesystem_numbered nat_eq world (counted entry.count)).overlay
      ≡ Some (with_its_objects plain entry.overlay entry.above)

-- Then the store shows the overlays of the world that is left, and keeps what is without a name there.
pub record IsLeftWith (left : World ℕ) (new : StoreValue) : Type 0 where
  pub shown : All (IsShownIn left new.plain) new.overlays
  pub unnamed : KeepTheirUnnamed left new
  pub apart : AreApart new.overlays

abbrev pub StoresAreLeft : Type 0
StoresAreLeft =
    (fresh : Fresh ℕ) (world : World ℕ) (task : Task ℕ) (permit : Permit ℕ) (old new : StoreValue)
    (gained lost : List NodeRef)
    → LeavesStore fresh world task permit old new gained lost → IsLeftWith (left_by fresh world task permit) new
