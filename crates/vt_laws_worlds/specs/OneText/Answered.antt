-- Worlds that are the same but for change numbers, and for the order of the numbers that stand beside trees, are
-- answered alike, with overlays too.
use Rattle.std.specs.Prelude.{nat_eq, ℕ, ◌≡◌}
use Rattle.vt_spec.specs.Language.Calls.{Call, Directive, TaskName}
use Rattle.vt_spec.specs.Lists.{Fresh}
use Rattle.vt_spec.specs.Machine.Apply.{apply}
use Rattle.vt_spec.specs.Machine.Invariants.{IsWorld}
use Rattle.vt_spec.specs.Machine.Outcomes.{Outcome}
use Rattle.vt_spec.specs.Machine.Permits.{Permit}
use Rattle.vt_spec.specs.Machine.Policy.{policy}
use Rattle.vt_spec.specs.Machine.SameWorlds.{SameWorlds}
use Rattle.vt_spec.specs.Machine.Sealed.{directed}
use Rattle.vt_spec.specs.Machine.Settled.{settled}
use Rattle.vt_spec.specs.Machine.World.{Task, World}

-- one answer, and worlds that are the same
pub record AreAlike (one other : Outcome ℕ) : Type 0 where
  pub answer : one.answer ≡ other.answer
  pub worlds : SameWorlds one.world other.world

-- the same task but for its change number
abbrev pub IsSameTask : Task ℕ → Task ℕ → Type 0
IsSameTask one other = record one { change = 0 } ≡ record other { change = 0 }

-- In two such worlds, one of which has all invariants, each permit has one answer for a task, and leaves two such
-- worlds before the last step of the policy.
abbrev pub PermitsLeaveAlike : Type 0
PermitsLeaveAlike =
    (one other : World ℕ) → SameWorlds one other → IsWorld nat_eq one → (fresh : Fresh ℕ) (task again : Task ℕ)
    → IsSameTask task again → (permit : Permit ℕ)
    → AreAlike (apply nat_eq fresh one task permit) (apply nat_eq fresh other again permit)

-- The sweep leaves two such worlds, whatever invariants they have.
abbrev pub AnySameWorldsAreSweptAlike : Type 0
AnySameWorldsAreSweptAlike =
    (one other : World ℕ) → SameWorlds one other → SameWorlds (settled nat_eq one) (settled nat_eq other)

-- So each call has one answer, and leaves two such worlds.
abbrev pub AnySameWorldsAreAnsweredAlike : Type 0
AnySameWorldsAreAnsweredAlike =
    (one other : World ℕ) → SameWorlds one other → IsWorld nat_eq one → (fresh : Fresh ℕ) (name : TaskName)
    (call : Call) → AreAlike (policy nat_eq fresh one name call) (policy nat_eq fresh other name call)

-- So has each directive.
abbrev pub AnySameWorldsAreDirectedAlike : Type 0
AnySameWorldsAreDirectedAlike =
    (one other : World ℕ) → SameWorlds one other → (directive : Directive)
    → AreAlike (directed nat_eq one directive) (directed nat_eq other directive)
