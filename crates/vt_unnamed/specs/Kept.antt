-- What the overlays of a store keep without a name is what a world has there without one: unlink(2) and rmdir(2) of what
-- is in use, and the kernel's overlayfs document, "upper and lower".
use Rattle.std.specs.Prelude.{All, None, Option, Some, length, nat_eq, option_map, true, ⊤, ℕ, ◌<◌, ◌≡◌, ◌≤◌}
use Rattle.vt_spec.specs.Lists.{then_some}
use Rattle.vt_spec.specs.Machine.Invariants.{IsWorld}
use Rattle.vt_spec.specs.Machine.World.{Overlay, World, filesystem_numbered, upper_object}
use Rattle.vt_laws_kept.specs.Counts.{locations_on}
use Rattle.vt_laws_kept.specs.Kept.{is_unnamed}
use Rattle.vt_births.specs.Births.{slot_above}
use Rattle.vt_births.specs.Kept.{is_kept}
use Rattle.vt_location.specs.declared.locations.NodeRef.{NodeRef}
use Rattle.vt_location.specs.Locations.{inode_of, number_of}
use Rattle.vt_location.specs.Numbers.{counted}
use Rattle.vt_fs.specs.FilesystemsValue.{Filesystems}
use Rattle.vt_overlay.specs.declared.merge.merging.TheConstants.{MOST_LAYERS}
use Rattle.vt_overlay.specs.MergedTree.{OverlayValue}
use Rattle.vt_upper_overlay.specs.Laws.{IsKeptRight}
use Rattle.vt_layered.specs.LayeredTree.{StandsLayered, layered_objects, layered_seen}
use Rattle.vt_layered.specs.LayeredValue.{Above, upper_of}
use Rattle.vt_layered.specs.Pins.{inode_above}
use Rattle.vt_store.specs.OverlaysValue.{OverlayEntry}
use Rattle.vt_store.specs.StoreValue.{StoreValue}
use Rattle.vt_kept_nodes.specs.Counted.{CountsNodes, Unnamed}
use Rattle.vt_world.specs.OverlaysKept.Kept.{ShowsLayers}
use Rattle.vt_world.specs.OverlaysKept.Layered.{KeptAreThere}

-- which inodes of a world are without a name
abbrev pub unnamed_in : World ℕ → Unnamed
unnamed_in world filesystem = is_unnamed (filesystem_numbered nat_eq world filesystem).files

-- an overlay with the real objects that plain trees show
abbrev pub with_its_objects : Filesystems → OverlayValue → Option Above → Overlay ℕ
with_its_objects plain overlay above =
    record (layered_seen overlay above) { real = layered_objects plain overlay above }

-- The nodes without a name of an overlay with an upper layer have as many uses as locations are on them in the world; its
-- births are those of real objects, and what it keeps has one and no name.
pub record KeepsUnnamed (world : World ℕ) (plain : Filesystems) (entry : OverlayEntry) (above : Above) : Type 0 where
  pub counts : CountsNodes (unnamed_in world) (locations_on world) entry.count entry.overlay.number above.nodes
  pub right : IsKeptRight (upper_of entry.overlay above)
      (filesystem_numbered nat_eq world (counted entry.count)).files.tree
      (layered_objects plain entry.overlay (Some above))

-- a read-only overlay keeps nothing without a name
abbrev pub KeepsAbove : World ℕ → Filesystems → OverlayEntry → Option Above → Type 0
KeepsAbove world plain entry None = ⊤
KeepsAbove world plain entry (Some above) = KeepsUnnamed world plain entry above

-- the invariant of a store in its world
abbrev pub KeepTheirUnnamed : World ℕ → StoreValue → Type 0
KeepTheirUnnamed world store = All (λ entry. KeepsAbove world store.plain entry entry.above) store.overlays

-- An overlay with an upper layer of a world with all invariants is kept as plain trees show it, and so is what is without
-- a name in it.
pub record IsKeptIn (world : World ℕ) (plain : Filesystems) (overlay : OverlayValue) (above : Above) : Type 0 where
  pub in_world : IsWorld nat_eq world
  pub is : (filesystem_numbered nat_eq world (counted overlay.number.count)).overlay
      ≡ Some (with_its_objects plain overlay (Some above))
  pub shows : ShowsLayers world plain overlay
  pub some : 0 < length overlay.lowers
  pub few : length overlay.lowers ≤ MOST_LAYERS
  pub right : IsKeptRight (upper_of overlay above)
      (filesystem_numbered nat_eq world (counted overlay.number.count)).files.tree
      (layered_objects plain overlay (Some above))
  pub counts : CountsNodes (unnamed_in world) (locations_on world) overlay.number.count overlay.number above.nodes

-- what is said of such an overlay
abbrev pub OfKeptOverlays : (World ℕ → Filesystems → OverlayValue → Above → Type 0) → Type 0
OfKeptOverlays Said =
    (world : World ℕ) (plain : Filesystems) (overlay : OverlayValue) (above : Above)
    → IsKeptIn world plain overlay above → Said world plain overlay above

-- It stands as its looks ask,
abbrev pub KeptOverlaysStand : Type 0
KeptOverlaysStand = OfKeptOverlays (λ world plain overlay above. StandsLayered plain overlay (Some above))

-- what it keeps is there,
abbrev pub KeptNodesAreThere : Type 0
KeptNodesAreThere = OfKeptOverlays (λ world plain overlay above. KeptAreThere plain overlay (Some above))

-- and what is let go with the last use of a node is its upper object, if it has one.
abbrev pub UpperObjectsAreLetGo : Type 0
UpperObjectsAreLetGo =
    OfKeptOverlays (λ world plain overlay above.
    (node : NodeRef) → is_kept above.nodes.kept node ≡ true
    → option_map inode_of (then_some (slot_above above.nodes.births node) (inode_above overlay))
    ≡ upper_object (layered_objects plain overlay (Some above) (number_of node)))
