-- An overlay pins the upper objects of its inodes without a name: unlink(2) on a file that is still open, and the
-- kernel's overlayfs document, "upper and lower".
use Rattle.std.specs.Prelude.{All, Bool, List, [], filter, filter_map, flat_map, map, nat_eq, not, option_to_list, ℕ, ◌&&◌, ◌≡◌}
use Rattle.vt_spec.specs.FileTree.{FileTree}
use Rattle.vt_spec.specs.Lists.{is_among}
use Rattle.vt_spec.specs.Machine.Invariants.{IsWorld, OverlayInvariants}
use Rattle.vt_spec.specs.Machine.Locked.{of_overlay}
use Rattle.vt_spec.specs.Machine.Settled.{named_in, settled}
use Rattle.vt_spec.specs.Machine.World.{Filesystem, Layer, Overlay, World, filesystem_numbered, upper_object}
use Rattle.vt_laws_mounts.specs.LettingGo.InUse.{AllInUse}
use Rattle.vt_laws_worlds.specs.Worlds.Kept.{IsUnderWay}
use Rattle.vt_laws_upper_layers.specs.Lowered.{ArePinned, Pins, PinsInLayers, lowered}

-- an inode is not the root, and no entry leads to it
abbrev pub is_unnamed : FileTree ℕ → ℕ → Bool
is_unnamed files number = not (nat_eq number files.tree.root) && not (is_among nat_eq number (named_in files))

-- the upper objects of those of an overlay
abbrev pub objects_unnamed : Filesystem ℕ → Overlay ℕ → List ℕ
objects_unnamed filesystem overlay =
    filter_map (λ number. upper_object (overlay.real number))
    (filter (is_unnamed filesystem.files) filesystem.files.numbers)

-- an object as a pin in an upper layer
abbrev pub pin_of : Layer ℕ → ℕ → Layer ℕ
pin_of upper object = record { filesystem = upper.filesystem; directory = object }

abbrev pub pins_in : Filesystem ℕ → Overlay ℕ → List (Layer ℕ)
pins_in filesystem overlay =
    flat_map (λ upper. map (pin_of upper) (objects_unnamed filesystem overlay)) (option_to_list overlay.upper)

-- what the overlays of a world pin
abbrev pub unnamed_pins : World ℕ → Pins
unnamed_pins world number =
    of_overlay [] (pins_in (filesystem_numbered nat_eq world number)) (filesystem_numbered nat_eq world number)

-- So upper objects are pinned in each world with all invariants: every other one has a name, or is the upper directory.
abbrev pub UnnamedArePinned : Type 0
UnnamedArePinned =
    (world : World ℕ) → IsWorld nat_eq world
    → All (ArePinned (unnamed_pins world) world) world.filesystems
    × All (PinsInLayers (unnamed_pins world)) world.filesystems

-- Where upper objects are pinned and all is in use, all is in use in the lowered world; so it can be changed there, and
-- what was counted is counted.
abbrev pub LoweredAreInUse : Type 0
LoweredAreInUse =
    (pins : Pins) (world : World ℕ) → AllInUse world → All (ArePinned pins world) world.filesystems
    → All (PinsInLayers pins) world.filesystems → AllInUse (lowered pins world)

-- So a world under way, in which each overlay pins what has no name after the sweep, is swept to the lowered world of
-- what the sweep leaves: with an inode that goes its pin goes, too.
abbrev pub UnnamedAreSweptAlike : Type 0
UnnamedAreSweptAlike =
    (world : World ℕ) → IsUnderWay world → OverlayInvariants nat_eq world
    → settled nat_eq (lowered (unnamed_pins (settled nat_eq world)) world)
    ≡ lowered (unnamed_pins (settled nat_eq world)) (settled nat_eq world)
