-- Pins go with their inodes. An inode of an overlay that has lost its name goes when no location is on it any more, and
-- its upper object is pinned no more: unlink(2) of what is in use, close(2), umount(2) with MNT_DETACH.
use Rattle.std.specs.Prelude.{Bool, List, [], filter, filter_map, flat_map, map, nat_eq, option_to_list, ℕ, ◌&&◌, ◌+◌, ◌≡◌}
use Rattle.vt_spec.specs.Machine.Invariants.{OverlayInvariants}
use Rattle.vt_spec.specs.Machine.Locked.{of_overlay}
use Rattle.vt_spec.specs.Machine.Settled.{settled}
use Rattle.vt_spec.specs.Machine.World.{Filesystem, Layer, Overlay, World, upper_object}
use Rattle.vt_laws_mounts.specs.LettingGo.Counts.{times}
use Rattle.vt_laws_worlds.specs.Worlds.Kept.{IsUnderWay}
use Rattle.vt_laws_kept.specs.Counts.{locations_on}
use Rattle.vt_laws_upper_layers.specs.Lowered.{all_pins, is_at}
use Rattle.vt_laws_upper_layers.specs.UnnamedPins.{is_unnamed, pin_of, unnamed_pins}

-- an inode without a name on which a world has no location
abbrev pub is_let_go : World ℕ → Filesystem ℕ → ℕ → Bool
is_let_go left merged number = is_unnamed merged.files number && nat_eq (locations_on left merged.number number) 0

-- the upper objects of those of an overlay, as pins in its upper layer
abbrev pub let_go_in : World ℕ → Filesystem ℕ → Overlay ℕ → List (Layer ℕ)
let_go_in left merged overlay =
    flat_map (λ upper. map (pin_of upper) (filter_map (λ number. upper_object (overlay.real number))
    (filter (is_let_go left merged) merged.files.numbers))) (option_to_list overlay.upper)

-- what the overlays of a world let go of
abbrev pub pins_let_go : World ℕ → World ℕ → List (Layer ℕ)
pins_let_go left world = flat_map (λ merged. of_overlay [] (let_go_in left merged) merged) world.filesystems

-- What overlays pinned without a name, they pin after the sweep or let go of, each as often.
abbrev pub PinsGoWithTheirInodes : Type 0
PinsGoWithTheirInodes =
    (world : World ℕ) (filesystem number : ℕ) → IsUnderWay world → OverlayInvariants nat_eq world
    → times (is_at filesystem number) (all_pins (unnamed_pins world) world)
    ≡ times (is_at filesystem number) (all_pins (unnamed_pins (settled nat_eq world)) world)
    + times (is_at filesystem number) (pins_let_go (settled nat_eq world) world)
