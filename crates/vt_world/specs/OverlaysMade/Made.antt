-- The overlay that a mount makes, where it is handed the numbers by which code knows its inodes: mount(2), and the
-- kernel's overlayfs document, "upper and lower" and "multiple lower layers".
use Rattle.std.specs.Prelude.{List, Some, [], false, length, nat_eq, slice_get, true, ℕ, ◌*◌, ◌+◌, ◌<◌, ◌∷◌, ◌≡◌, ◌≤◌}
use Rattle.vt_spec.specs.Lists.{Fresh, evens, odds}
use Rattle.vt_spec.specs.Machine.Invariants.{IsWorld}
use Rattle.vt_spec.specs.Machine.Merging.{Merged, merged_objects, real_object}
use Rattle.vt_spec.specs.Machine.NewMounts.{inode_count, overlay_filesystem}
use Rattle.vt_spec.specs.Machine.SameWorlds.{SameFilesystem}
use Rattle.vt_spec.specs.Machine.World.{Filesystem, Real, World}
use Rattle.vt_laws_worlds.specs.Given.NumbersHanded.{Placed, handed_at}
use Rattle.vt_laws_trees.specs.Layers.Layers.Mounted.{AreLayers}
use Rattle.vt_laws_worlds.specs.Permits.InUse.{is_in_use}
use Rattle.vt_laws_rules.specs.Numbers.{Allotment}
use Rattle.vt_laws_trees.specs.Runs.Handed.{counts_from, is_counted_before, may_be_given}
use Rattle.vt_laws_trees.specs.Runs.Runs.{ServesInHand}
use Rattle.vt_world.specs.OverlaysKept.Kept.{ShowsLayers, with_objects}
use Rattle.vt_location.specs.declared.locations.NodeRef.{NodeRef}
use Rattle.vt_location.specs.declared.numbers.FilesystemId.{FilesystemId}
use Rattle.vt_location.specs.Locations.{number_of}
use Rattle.vt_location.specs.NodeNumbers.{IsSmall}
use Rattle.vt_location.specs.Numbers.{counted}
use Rattle.vt_fs.specs.FilesystemsValue.{Filesystems}
use Rattle.vt_overlay.specs.Merge.LayerValue.{layers_of}
use Rattle.vt_overlay.specs.MergedTree as Kept
use Rattle.vt_overlay.specs.MergedTree.{OverlayValue, merged_files, merged_tree, overlay_seen, real_number}

-- the number of each object that is shown, at every fourth place of a supply from this one on
abbrev pub placed_from : (Real ℕ → ℕ) → ℕ → List (Merged ℕ) → List Placed
placed_from number_of place [] = []
placed_from number_of place (object ∷ rest) =
    (place, number_of (real_object false object.seen.layer object)) ∷ placed_from number_of (place + 4) rest

-- what the layers show, on paths that are no longer than this
abbrev pub objects_shown : ℕ → Filesystems → OverlayValue → List (Merged ℕ)
objects_shown most trees overlay = merged_objects (layers_of trees overlay.lowers) most

-- The supply of a program that mounts an overlay: counts from the overlay's own on, and the numbers of its inodes at
-- the places 2, 6, 10 and so on, which no mount and no peer group takes.
abbrev pub placed_inodes : ℕ → Filesystems → OverlayValue → List Placed
placed_inodes most trees overlay = placed_from (real_number trees overlay) 2 (objects_shown most trees overlay)

abbrev pub handed_for : ℕ → Filesystems → OverlayValue → Fresh ℕ
handed_for most trees overlay = handed_at overlay.number.count (placed_inodes most trees overlay)

-- In a world no path is longer than there are inodes.
abbrev pub handed_in : World ℕ → Filesystems → OverlayValue → Fresh ℕ
handed_in world trees overlay = handed_for (inode_count world) trees overlay

-- the filesystem that a mount makes with it
abbrev pub overlay_made : World ℕ → Filesystems → OverlayValue → Filesystem ℕ
overlay_made world trees overlay =
    overlay_filesystem nat_eq (evens (handed_in world trees overlay)) world (overlay_seen overlay)

-- and the one that the layers show, as they are kept
abbrev pub overlay_shown : Filesystems → OverlayValue → Filesystem ℕ
overlay_shown trees overlay = record {
  number = counted overlay.number.count;
  files = merged_files trees overlay;
  overlay = Some (with_objects trees overlay);
  change = 0;
}

-- So the filesystem has the number of its count,
abbrev pub OverlaysGetTheirCount : Type 0
OverlaysGetTheirCount =
    (most : ℕ) (trees : Filesystems) (overlay : OverlayValue)
    → evens (evens (handed_for most trees overlay)) 0 ≡ counted overlay.number.count

-- and each object that is shown the number of its birth.
abbrev pub InodesGetTheirNumbers : Type 0
InodesGetTheirNumbers =
    (most : ℕ) (trees : Filesystems) (overlay : OverlayValue) (place : ℕ) (object : Merged ℕ)
    → slice_get (objects_shown most trees overlay) place ≡ Some object
    → odds (evens (handed_for most trees overlay)) place
    ≡ real_number trees overlay (real_object false object.seen.layer object)

-- Mounts and peer groups get counts after its own.
abbrev pub MountsGetCounts : Type 0
MountsGetCounts =
    (most : ℕ) (trees : Filesystems) (overlay : OverlayValue) (k : ℕ)
    → odds (handed_for most trees overlay) k ≡ counts_from overlay.number.count (2 * k + 1)

-- what is said of the overlay that is made of layers of a world that are kept, if all numbers of the supply differ
abbrev pub OfMadeOverlays : (Filesystems → OverlayValue → Filesystem ℕ → Type 0) → Type 0
OfMadeOverlays Said =
    (world : World ℕ) (trees : Filesystems) (overlay : OverlayValue) → IsWorld nat_eq world
    → AreLayers world (overlay_seen overlay) → ShowsLayers world trees overlay
    → ((j k : ℕ) → handed_in world trees overlay j ≡ handed_in world trees overlay k → j ≡ k)
    → Said trees overlay (overlay_made world trees overlay)

-- Its tree is the one that its layers show as they are kept, and so are its real objects.
abbrev pub MadeTreesAreShown : Type 0
MadeTreesAreShown =
    OfMadeOverlays (λ trees overlay made. made.files.tree ≡ merged_tree trees overlay)

abbrev pub MadeObjectsAreShown : Type 0
MadeObjectsAreShown =
    OfMadeOverlays (λ trees overlay made. made.overlay ≡ Some (with_objects trees overlay))

-- So it is the one that they show, but for the order of the numbers beside its tree.
abbrev pub MadeOverlaysAreSame : Type 0
MadeOverlaysAreSame =
    OfMadeOverlays (λ trees overlay made. SameFilesystem made (overlay_shown trees overlay))

-- The supply

-- No number of a node of the overlay is in use, and of odd ones only those are that are counted before its own.
pub record IsNew (world : World ℕ) (number : FilesystemId) : Type 0 where
  pub small : number.count < 18446744073709551616
  pub counted_before : (other : ℕ) → is_in_use world other ≡ true → is_counted_before number.count other ≡ true
  pub nodes : (node : NodeRef) → IsSmall node → node.filesystem ≡ number → is_in_use world (number_of node) ≡ false

-- Then the supply serves: the numbers of births are even, apart, and not in use.
abbrev pub SuppliesForOverlaysServe : Type 0
SuppliesForOverlaysServe =
    (most : ℕ) (trees : Filesystems) (overlay : OverlayValue) (world : World ℕ) → IsWorld nat_eq world
    → Kept.AreLayers trees overlay.lowers → length overlay.lowers ≤ 128 → IsNew world overlay.number
    → (allotment : Allotment) × (allotment.new ≡ handed_for most trees overlay)
    × ServesInHand may_be_given world allotment

-- So with it the overlay of a world is the one that its layers show.
abbrev pub NewOverlaysAreSame : Type 0
NewOverlaysAreSame =
    (world : World ℕ) (trees : Filesystems) (overlay : OverlayValue) → IsWorld nat_eq world
    → AreLayers world (overlay_seen overlay) → ShowsLayers world trees overlay → length overlay.lowers ≤ 128
    → IsNew world overlay.number → SameFilesystem (overlay_made world trees overlay) (overlay_shown trees overlay)
