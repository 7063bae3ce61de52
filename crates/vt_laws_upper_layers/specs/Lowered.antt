-- Counts of uses beside upper layers. A lowered world has the upper and work directories of its overlays, and what they
-- pin in their upper layers, among the lower layers: the kernel's overlayfs document, "upper and lower"; unlink(2) on a
-- file that is still open.
use Rattle.std.specs.Prelude.{All, Bool, List, None, Some, [], false, flat_map, map, nat_eq, not, option_map, true, ℕ, ◌&&◌, ◌+◌, ◌++◌, ◌∷◌, ◌≡◌, ◌||◌}
use Rattle.std.specs.List.{list_any}
use Rattle.vt_spec.specs.Lists.{is_among}
use Rattle.vt_spec.specs.Machine.Locked.{of_overlay}
use Rattle.vt_spec.specs.Machine.Settled.{has_layer_on, located_in, named_in, objects_of_overlay, settled, used_in, without_dead_filesystems, without_dead_in, without_dead_inodes, without_dead_mounts}
use Rattle.vt_spec.specs.Machine.World.{Filesystem, Layer, Overlay, World, filesystem_numbered, is_overlay, layers_of}
use Rattle.vt_laws_mounts.specs.Counts.BesideOverlays.{OverlaysHaveNoUpper}
use Rattle.vt_laws_mounts.specs.Counts.Using.{Exchanges}
use Rattle.vt_laws_mounts.specs.LettingGo.Counts.{inode_uses, times}
use Rattle.vt_laws_mounts.specs.LettingGo.OneByOne.{Inode}
use Rattle.vt_laws_mounts.specs.LettingGo.TreesOverlays.{in_use_of}

-- what each overlay pins, by the overlay's number: objects of its upper layer
abbrev pub Pins : Type 0
Pins = ℕ → List (Layer ℕ)

-- no overlay pins anything
abbrev pub no_pins : Pins
no_pins number = []

-- the overlay with all its layers and pins as lower layers
abbrev pub lowered_overlay : List (Layer ℕ) → Overlay ℕ → Overlay ℕ
lowered_overlay pins overlay =
    record overlay { upper = None; work = None; lowers = layers_of overlay ++ pins }

abbrev pub lowered_filesystem : Pins → Filesystem ℕ → Filesystem ℕ
lowered_filesystem pins filesystem =
    record filesystem { overlay = option_map (lowered_overlay (pins filesystem.number)) filesystem.overlay }

-- the world with such overlays
abbrev pub lowered : Pins → World ℕ → World ℕ
lowered pins world = record world { filesystems = map (lowered_filesystem pins) world.filesystems }

-- what all overlays pin
abbrev pub pins_of : Pins → Filesystem ℕ → List (Layer ℕ)
pins_of pins filesystem = of_overlay [] (λ overlay. pins filesystem.number) filesystem

abbrev pub all_pins : Pins → World ℕ → List (Layer ℕ)
all_pins pins world = flat_map (pins_of pins) world.filesystems

-- an inode of a filesystem is this layer's directory, or this pin
abbrev pub is_at : ℕ → ℕ → Layer ℕ → Bool
is_at filesystem number layer = nat_eq filesystem layer.filesystem && nat_eq number layer.directory

abbrev pub is_pinned : Pins → World ℕ → ℕ → ℕ → Bool
is_pinned pins world filesystem number = list_any (is_at filesystem number) (all_pins pins world)

-- a real object of an overlay with its upper layer in this filesystem
abbrev pub is_upper_object : World ℕ → ℕ → ℕ → Bool
is_upper_object world filesystem number =
    is_among nat_eq number (flat_map (objects_of_overlay nat_eq filesystem) world.filesystems)

-- the root, a name, a location or a layer uses it
abbrev pub is_used_beside : World ℕ → Filesystem ℕ → ℕ → Bool
is_used_beside world filesystem number =
    is_among nat_eq number (filesystem.files.tree.root ∷ (named_in filesystem.files
    ++ located_in nat_eq world filesystem.number))
    || list_any (is_at filesystem.number number) (flat_map (of_overlay [] layers_of) world.filesystems)

-- Each upper object in a filesystem is pinned, or something else uses it; and upper objects alone are pinned.
pub record ArePinned (pins : Pins) (world : World ℕ) (filesystem : Filesystem ℕ) : Type 0 where
  pub objects : (number : ℕ) → is_upper_object world filesystem.number number ≡ true
      → (is_used_beside world filesystem number || is_pinned pins world filesystem.number number) ≡ true
  pub pinned : (number : ℕ) → is_pinned pins world filesystem.number number ≡ true
      → is_upper_object world filesystem.number number ≡ true

-- an overlay pins only where it has a layer
abbrev pub PinsInLayers : Pins → Filesystem ℕ → Type 0
PinsInLayers pins filesystem =
    (overlay : Overlay ℕ) (number : ℕ) → filesystem.overlay ≡ Some overlay
    → list_any (λ (layer : Layer ℕ). nat_eq number layer.filesystem) (pins filesystem.number) ≡ true
    → list_any (λ (layer : Layer ℕ). nat_eq number layer.filesystem) (layers_of overlay) ≡ true

-- The same is used

-- A lowered world has no upper layer,
abbrev pub LoweredHaveNoUpper : Type 0
LoweredHaveNoUpper = (pins : Pins) (world : World ℕ) → OverlaysHaveNoUpper (lowered pins world)

-- its overlays have layers in the same filesystems,
abbrev pub FilesystemsUseTheSame : Type 0
FilesystemsUseTheSame =
    (pins : Pins) (number : ℕ) (filesystem : Filesystem ℕ) → PinsInLayers pins filesystem
    → has_layer_on nat_eq number (lowered_filesystem pins filesystem) ≡ has_layer_on nat_eq number filesystem

-- and the same inodes are in use.
abbrev pub InodesUseTheSame : Type 0
InodesUseTheSame =
    (pins : Pins) (world : World ℕ) (filesystem : Filesystem ℕ) (number : ℕ) → ArePinned pins world filesystem
    → is_among nat_eq number (used_in nat_eq (lowered pins world) (lowered_filesystem pins filesystem))
    ≡ is_among nat_eq number (used_in nat_eq world filesystem)

-- Sweeps

-- Mounts that nothing uses go from a lowered world as from the world,
abbrev pub MountsGoAlike : Type 0
MountsGoAlike =
    (pins : Pins) (world : World ℕ)
    → without_dead_mounts nat_eq (lowered pins world) ≡ lowered pins (without_dead_mounts nat_eq world)

-- so filesystems,
abbrev pub FilesystemsGoAlike : Type 0
FilesystemsGoAlike =
    (pins : Pins) (world : World ℕ) → All (PinsInLayers pins) world.filesystems
    → without_dead_filesystems nat_eq (lowered pins world) ≡ lowered pins (without_dead_filesystems nat_eq world)

-- Upper objects of overlays are pinned so before the sweep of overlays, and those of plain trees after it: then what
-- inodes of overlays that go had for their real objects is pinned no more.
pub record ArePinnedWhenSwept (pins : Pins) (world : World ℕ) : Type 0 where
  pub overlays : All (λ filesystem. is_overlay filesystem ≡ true → ArePinned pins world filesystem) world.filesystems
  pub plain : All (λ filesystem. not (is_overlay filesystem) ≡ true
      → ArePinned pins (without_dead_in nat_eq is_overlay world) filesystem)
      (without_dead_in nat_eq is_overlay world).filesystems

-- and inodes.
abbrev pub InodesGoAlike : Type 0
InodesGoAlike =
    (pins : Pins) (world : World ℕ) → ArePinnedWhenSwept pins world
    → without_dead_inodes nat_eq (lowered pins world) ≡ lowered pins (without_dead_inodes nat_eq world)

-- So the sweep leaves the lowered world of what it leaves.
abbrev pub SweptAlike : Type 0
SweptAlike =
    (pins : Pins) (world : World ℕ) → All (PinsInLayers pins) world.filesystems
    → ArePinnedWhenSwept pins (in_use_of world)
    → settled nat_eq (lowered pins world) ≡ lowered pins (settled nat_eq world)

-- Counts

-- A pin is one use of its inode,
abbrev pub PinsAreUses : Type 0
PinsAreUses =
    (pins : Pins) (world : World ℕ) (filesystem : Filesystem ℕ) (number : ℕ)
    → inode_uses (lowered pins world) (lowered_filesystem pins filesystem) number
    ≡ inode_uses (lowered no_pins world) (lowered_filesystem no_pins filesystem) number
    + times (is_at filesystem.number number) (all_pins pins world)

-- the inode that a layer or a pin is
abbrev pub inode_of_layer : Layer ℕ → Inode
inode_of_layer layer = (layer.filesystem, layer.directory)

-- so pins that come and go are uses that come and go,
abbrev pub PinsAreExchanged : Type 0
PinsAreExchanged =
    (old new : Pins) (world : World ℕ) (gained lost : List (Layer ℕ)) (filesystem : ℕ)
    → is_overlay (filesystem_numbered nat_eq world filesystem) ≡ false
    → ((number : ℕ) → times (is_at filesystem number) (all_pins old world) + times (is_at filesystem number) gained
    ≡ times (is_at filesystem number) (all_pins new world) + times (is_at filesystem number) lost)
    → Exchanges (map inode_of_layer gained) (map inode_of_layer lost) filesystem (lowered old world) (lowered new world)

-- the overlay has neither an upper nor a work directory
abbrev pub IsReadOnly : Filesystem ℕ → Type 0
IsReadOnly filesystem =
    (overlay : Overlay ℕ) → filesystem.overlay ≡ Some overlay → (overlay.upper ≡ None) × (overlay.work ≡ None)

-- and a world of read-only overlays that pin nothing is as it was.
abbrev pub ReadOnlyWorldsStay : Type 0
ReadOnlyWorldsStay = (world : World ℕ) → All IsReadOnly world.filesystems → lowered no_pins world ≡ world
