-- Worlds that are the same but for change numbers, and for the order of the numbers beside trees, have the same
-- invariants, and the same numbers in them, with overlays too.
use Rattle.std.specs.Prelude.{Bool, nat_eq, ℕ}
use Rattle.vt_laws_rules.specs.Numbers.{KeepsTo}
use Rattle.vt_laws_worlds.specs.Worlds.Kept.{IsUnderWay}
use Rattle.vt_spec.specs.Machine.Invariants.{IsWorld, OverlayInvariants}
use Rattle.vt_spec.specs.Machine.SameWorlds.{SameWorlds}
use Rattle.vt_spec.specs.Machine.World.{World}

-- Where the one has all invariants, so has the other,
abbrev pub AnySameWorldsAreWorlds : Type 0
AnySameWorldsAreWorlds = (one other : World ℕ) → SameWorlds one other → IsWorld nat_eq one → IsWorld nat_eq other

-- also before the sweep, when something may be left that nothing uses,
abbrev pub AnySameWorldsAreUnderWay : Type 0
AnySameWorldsAreUnderWay =
    (one other : World ℕ) → SameWorlds one other → IsUnderWay one → OverlayInvariants nat_eq one
    → IsUnderWay other × OverlayInvariants nat_eq other

-- and where the one keeps to some numbers, so does the other.
abbrev pub AnySameWorldsKeepToNumbers : Type 0
AnySameWorldsKeepToNumbers =
    (named : ℕ → Bool) (one other : World ℕ) → SameWorlds one other → KeepsTo named one → KeepsTo named other
