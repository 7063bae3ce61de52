-- Worlds that are the same but for change numbers, and for the order of the numbers that stand beside trees, look
-- alike.
use Rattle.std.specs.Prelude.{Bool, false, nat_eq, ℕ, ◌≡◌}
use Rattle.std.specs.List.{All}
use Rattle.vt_laws_rules.specs.Judged.{LookAlike}
use Rattle.vt_spec.specs.Language.Calls.{Call}
use Rattle.vt_spec.specs.Machine.Invariants.{IsWorld}
use Rattle.vt_spec.specs.Machine.Judge.{judge, judge_in}
use Rattle.vt_spec.specs.Lists.{Fresh}
use Rattle.vt_spec.specs.Machine.Looks.{looks_of}
use Rattle.vt_spec.specs.Machine.Permits.{Permit}
use Rattle.vt_spec.specs.Machine.SameWorlds.{LowerObjectsHaveOneName, SameWorlds}
use Rattle.vt_spec.specs.Machine.World.{Task, World, is_overlay}

-- They show the same wherever walks and rules look. The directory that the mounter of an overlay is asked for goes by a
-- name of an inode, which is told by the tree where there is one alone.
abbrev pub SameWorldsLookAlike : Type 0
SameWorldsLookAlike =
    (one other : World ℕ) → SameWorlds one other → LowerObjectsHaveOneName nat_eq one
    → LookAlike (looks_of nat_eq one) (looks_of nat_eq other)

-- So each call is judged alike in both, whatever is said of namespaces with too many mounts,
abbrev pub SameWorldsAreJudgedAlike : Type 0
SameWorldsAreJudgedAlike =
    (one other : World ℕ) → SameWorlds one other → LowerObjectsHaveOneName nat_eq one
    → (overfills : Permit ℕ → Bool) (task : Task ℕ) (call : Call)
    → judge nat_eq (looks_of nat_eq one) overfills task call ≡ judge nat_eq (looks_of nat_eq other) overfills task call

-- and by what is said of them in each.
abbrev pub SameWorldsJudgeAlike : Type 0
SameWorldsJudgeAlike =
    (one other : World ℕ) → SameWorlds one other → LowerObjectsHaveOneName nat_eq one
    → (fresh : Fresh ℕ) (task : Task ℕ) (call : Call)
    → judge_in nat_eq fresh one task call ≡ judge_in nat_eq fresh other task call

-- In a world of plain filesystems nothing lies below.
abbrev pub PlainHasOneName : Type 0
PlainHasOneName =
    (world : World ℕ) → All (λ filesystem. is_overlay filesystem ≡ false) world.filesystems
    → LowerObjectsHaveOneName nat_eq world

-- Nor has it names in two directories in a world that has the invariants, with overlays or without: its real object is
-- of one path, which is the one that names lead along.
abbrev pub WorldsHaveOneName : Type 0
WorldsHaveOneName = (world : World ℕ) → IsWorld nat_eq world → LowerObjectsHaveOneName nat_eq world

-- So of worlds that have the invariants it is not asked,
abbrev pub SameInvariantWorldsLookAlike : Type 0
SameInvariantWorldsLookAlike =
    (one other : World ℕ) → SameWorlds one other → IsWorld nat_eq one
    → LookAlike (looks_of nat_eq one) (looks_of nat_eq other)

-- and each call is judged alike in both.
abbrev pub SameInvariantWorldsJudgeAlike : Type 0
SameInvariantWorldsJudgeAlike =
    (one other : World ℕ) → SameWorlds one other → IsWorld nat_eq one
    → (fresh : Fresh ℕ) (task : Task ℕ) (call : Call)
    → judge_in nat_eq fresh one task call ≡ judge_in nat_eq fresh other task call
