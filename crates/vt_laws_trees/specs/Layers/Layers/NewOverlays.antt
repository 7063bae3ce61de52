-- A newly mounted overlay has what the invariants of a world ask of trees and of overlays: path_resolution(7), and the
-- kernel's overlayfs document, "upper and lower" and "sharing and copying layers".
use Rattle.std.specs.List.{list_all, list_any}
use Rattle.std.specs.Prelude.{Some, false, map, nat_eq, true, ℕ, ◌≡◌}
use Rattle.vt_spec.specs.Errors.{Rules}
use Rattle.vt_spec.specs.Machine.Locked.{live_upper_and_work, overlaps_one_of}
use Rattle.vt_spec.specs.Lists.{Fresh, any_pair, evens, is_among}
use Rattle.vt_spec.specs.Machine.Looks.{looks_of}
use Rattle.vt_spec.specs.Machine.Rules.Mounting.{LayerLocations, layer_rules}
use Rattle.vt_spec.specs.Machine.NewMounts.{overlay_filesystem, with_new_filesystem}
use Rattle.vt_spec.specs.Machine.World.{Filesystem, Overlay, World, filesystem_numbered, layers_of}
use Rattle.vt_spec.specs.Machine.Invariants.{IsMerged, IsWorld, ListsNumbers, is_fit_filesystem, is_plain_layer, live_lowers, overlap}
use Rattle.vt_spec.specs.TreeInvariant.{HasOwnParents, IsTree}
use Rattle.vt_laws_trees.specs.Layers.Layers.Mounted.{AreLayers}

-- what is said of an overlay that is made of layers
abbrev pub OfNewOverlays : (World ℕ → Filesystem ℕ → Type 0) → Type 0
OfNewOverlays Said =
    (fresh : Fresh ℕ) (world : World ℕ) (overlay : Overlay ℕ)
    → IsWorld nat_eq world → AreLayers world overlay → ((j k : ℕ) → fresh j ≡ fresh k → j ≡ k)
    → Said world (overlay_filesystem nat_eq fresh world overlay)

abbrev pub NewOverlayIsTree : Type 0
NewOverlayIsTree = OfNewOverlays (λ world filesystem. IsTree filesystem.files.tree)

abbrev pub NewOverlayHasOwnParents : Type 0
NewOverlayHasOwnParents = OfNewOverlays (λ world filesystem. HasOwnParents filesystem.files.tree)

abbrev pub NewOverlayListsNumbers : Type 0
NewOverlayListsNumbers = OfNewOverlays (λ world filesystem. ListsNumbers nat_eq filesystem.files)

-- its names, texts and files are within the limits, as those of its layers are
abbrev pub NewOverlayIsFit : Type 0
NewOverlayIsFit = OfNewOverlays (λ world filesystem. is_fit_filesystem filesystem ≡ true)

-- no rule refuses
abbrev pub NoneRefuses : Rules → Type 0
NoneRefuses rules = list_any (λ row. row.0) rules ≡ false

-- what is said of a world with an overlay that the rules on layers let be mounted, under a number that no other has
abbrev pub OfNewlyMounted : (World ℕ → Type 0) → Type 0
OfNewlyMounted Said =
    (fresh : Fresh ℕ) (world : World ℕ) (overlay : Overlay ℕ) (places : LayerLocations ℕ)
    → IsWorld nat_eq world → AreLayers world overlay
    → list_all (is_plain_layer nat_eq world) (layers_of overlay) ≡ true
    → ((j k : ℕ) → fresh j ≡ fresh k → j ≡ k)
    → is_among nat_eq (evens fresh 0) (map (λ filesystem. filesystem.number) world.filesystems) ≡ false
    → NoneRefuses (layer_rules nat_eq (looks_of nat_eq world) places overlay)
    → Said (with_new_filesystem world (overlay_filesystem nat_eq fresh world overlay))

-- upper and work directories still lie apart from each other, and from lower layers
abbrev pub ChangedStayApart : Type 0
ChangedStayApart = OfNewlyMounted (λ world. any_pair (overlap nat_eq world) (live_upper_and_work world) ≡ false)

abbrev pub LowersStayApart : Type 0
LowersStayApart =
    OfNewlyMounted (λ world.
    list_any (overlaps_one_of nat_eq world (live_lowers nat_eq world)) (live_upper_and_work world) ≡ false)

-- and each overlay is what its layers show
abbrev pub OverlaysStillMerge : Type 0
OverlaysStillMerge =
    OfNewlyMounted (λ world.
    (number : ℕ) (overlay : Overlay ℕ)
    → (filesystem_numbered nat_eq world number).overlay ≡ Some overlay
    → IsMerged nat_eq world (filesystem_numbered nat_eq world number) overlay)
