-- Counts of uses while no overlay has an upper layer.
use Rattle.std.specs.Prelude.{nat_eq, ℕ, ◌≡◌}
use Rattle.vt_spec.specs.Machine.Invariants.{IsWorld}
use Rattle.vt_spec.specs.Machine.World.{World}
use Rattle.vt_laws_mounts.specs.Counts.BesideOverlays.{OverlaysHaveNoUpper}
use Rattle.vt_laws_upper_layers.specs.Lowered.{lowered}
use Rattle.vt_laws_upper_layers.specs.UnnamedPins.{unnamed_pins}

-- Then overlays have no work directory and pin nothing, so the lowered world is the world itself.
abbrev pub ReadOnlyWorldsAreLowered : Type 0
ReadOnlyWorldsAreLowered =
    (world : World ℕ) → IsWorld nat_eq world → OverlaysHaveNoUpper world → lowered (unnamed_pins world) world ≡ world
