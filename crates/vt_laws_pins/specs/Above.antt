-- Uses that go with mounts, locations, inodes without a name and overlays, in lowered worlds: close(2), umount(2), exit(2).
use Rattle.std.specs.Prelude.{List, false, filter, flat_map, map, nat_eq, not, ℕ, ◌++◌, ◌≡◌}
use Rattle.vt_spec.specs.Machine.Invariants.{IsWorld, OverlayInvariants}
use Rattle.vt_spec.specs.Machine.Settled.{filesystem_lives, settled, without_dead_mounts}
use Rattle.vt_spec.specs.Machine.World.{Filesystem, World, filesystem_numbered, is_overlay}
use Rattle.vt_laws_mounts.specs.Counts.Using.{Exchanges, is_inode}
use Rattle.vt_laws_mounts.specs.LettingGo.Counts.{times}
use Rattle.vt_laws_mounts.specs.LettingGo.OneByOne.{Inode}
use Rattle.vt_laws_mounts.specs.LettingGo.Overlays.{used_by_filesystem}
use Rattle.vt_laws_mounts.specs.LettingGo.TreesOverlays.{in_use_of}
use Rattle.vt_laws_worlds.specs.Worlds.Kept.{IsUnderWay}
use Rattle.vt_laws_upper_layers.specs.Lowered.{inode_of_layer, lowered, lowered_filesystem, no_pins}
use Rattle.vt_laws_upper_layers.specs.UnnamedPins.{unnamed_pins}
use Rattle.vt_laws_pins.specs.Gone.{pins_let_go}

-- what an overlay uses but for upper objects: the directories of its layers
abbrev pub layers_used : Filesystem ℕ → List Inode
layers_used merged = used_by_filesystem (lowered_filesystem no_pins merged)

-- what those use that are no longer in use when mounts are gone
abbrev pub layers_let_go : World ℕ → World ℕ → List Inode
layers_let_go mounted world =
    flat_map layers_used (filter (λ merged. not (filesystem_lives nat_eq mounted merged))
    (filter is_overlay world.filesystems))

-- Where mounts and tasks change alone, and the sweep takes what nothing uses then, a plain filesystem that stays loses
-- beside what they exchange the pins that go with their inodes, and the layers of overlays that go.
abbrev pub UsesGoAbove : Type 0
UsesGoAbove =
    (world after : World ℕ) (gained lost : List Inode) (filesystem : ℕ) → IsWorld nat_eq world → IsUnderWay after
    → OverlayInvariants nat_eq after → after.filesystems ≡ world.filesystems
    → is_overlay (filesystem_numbered nat_eq world filesystem) ≡ false
    → filesystem_numbered nat_eq (in_use_of after) filesystem ≡ filesystem_numbered nat_eq after filesystem
    → Exchanges gained lost filesystem world (without_dead_mounts nat_eq after)
    → Exchanges gained ((lost ++ map inode_of_layer (pins_let_go (settled nat_eq after) world))
    ++ layers_let_go (without_dead_mounts nat_eq after) world) filesystem (lowered (unnamed_pins world) world)
    (in_use_of (lowered (unnamed_pins (settled nat_eq after)) after))

-- So it is where the exchange up to what is in use is told of worlds in which overlays pin nothing: there they take their
-- layers along.
abbrev pub UsesGoBesidePins : Type 0
UsesGoBesidePins =
    (world after : World ℕ) (gained lost : List Inode) (filesystem : ℕ) → IsWorld nat_eq world → IsUnderWay after
    → OverlayInvariants nat_eq after → after.filesystems ≡ world.filesystems
    → is_overlay (filesystem_numbered nat_eq world filesystem) ≡ false
    → Exchanges gained lost filesystem (lowered no_pins world) (lowered no_pins (in_use_of after))
    → Exchanges gained (lost ++ map inode_of_layer (pins_let_go (settled nat_eq after) world)) filesystem
    (lowered (unnamed_pins world) world) (in_use_of (lowered (unnamed_pins (settled nat_eq after)) after))

-- An exchange does not depend on an order.
abbrev pub ExchangesHaveNoOrder : Type 0
ExchangesHaveNoOrder =
    (world after : World ℕ) (gained lost more less : List Inode) (filesystem : ℕ)
    → ((number : ℕ) → times (is_inode filesystem number) more ≡ times (is_inode filesystem number) gained)
    → ((number : ℕ) → times (is_inode filesystem number) less ≡ times (is_inode filesystem number) lost)
    → Exchanges gained lost filesystem world after → Exchanges more less filesystem world after
