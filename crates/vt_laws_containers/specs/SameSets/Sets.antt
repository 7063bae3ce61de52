-- Sealed sets in worlds that are the same but for change numbers, and for the order of the numbers beside trees
-- (profile).
use Rattle.std.specs.Prelude.{List, nat_eq, ℕ, ◌≡◌}
use Rattle.vt_spec.specs.Language.Calls.{TaskName}
use Rattle.vt_spec.specs.Machine.SameWorlds.{SameWorlds}
use Rattle.vt_spec.specs.Machine.Sealed.{part_of, sealed, used_alone}
use Rattle.vt_spec.specs.Machine.World.{World}

-- In both worlds the same sets are sealed off,
abbrev pub SameWorldsAreSealedAlike : Type 0
SameWorldsAreSealedAlike =
    (one other : World ℕ) → SameWorlds one other → (names : List TaskName)
    → sealed nat_eq one names ≡ sealed nat_eq other names

-- others have footholds on the same filesystems,
abbrev pub SameWorldsGiveFootholdsAlike : Type 0
SameWorldsGiveFootholdsAlike =
    (one other : World ℕ) → SameWorlds one other → (names : List TaskName) (filesystem : ℕ)
    → used_alone nat_eq one names filesystem ≡ used_alone nat_eq other names filesystem

-- and the parts of a set are worlds that are the same.
abbrev pub SameWorldsHaveSameParts : Type 0
SameWorldsHaveSameParts =
    (one other : World ℕ) → SameWorlds one other → (names : List TaskName)
    → SameWorlds (part_of nat_eq one names) (part_of nat_eq other names)
