-- Worlds that are the same but for change numbers, and for the order of the numbers beside trees, have the same
-- invariants, and the same numbers in them.
use Rattle.std.specs.Prelude.{Bool, nat_eq, ℕ}
use Rattle.vt_laws_rules.specs.Numbers.{KeepsTo}
use Rattle.vt_spec.specs.Machine.SameWorlds.{SameWorlds}
use Rattle.vt_spec.specs.Machine.World.{World}
use Rattle.vt_spec.specs.Machine.Invariants.{IsWorld}
use Rattle.vt_laws_worlds.specs.Worlds.Kept.{IsPlain, IsWorldButForUse}

-- Where the one has the invariants, so has the other,
abbrev pub SameWorldsAreWorlds : Type 0
SameWorldsAreWorlds =
    (one other : World ℕ) → SameWorlds one other → IsPlain one → IsWorld nat_eq one
    → IsWorld nat_eq other × IsPlain other

-- also while a call is under way,
abbrev pub SameWorldsAreUnderWay : Type 0
SameWorldsAreUnderWay = (one other : World ℕ) → SameWorlds one other → IsWorldButForUse one → IsWorldButForUse other

-- and where the one keeps to some numbers, so does the other.
abbrev pub SameWorldsKeepToNumbers : Type 0
SameWorldsKeepToNumbers =
    (named : ℕ → Bool) (one other : World ℕ) → SameWorlds one other → IsPlain one → KeepsTo named one
    → KeepsTo named other
