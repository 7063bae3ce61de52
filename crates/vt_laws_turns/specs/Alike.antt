-- Worlds that are the same, with all their change numbers, are answered alike; and what walks and turns do not look at
-- (profile).
use Rattle.std.specs.Prelude.{List, nat_eq, ℕ, ◌≡◌}
use Rattle.vt_spec.specs.Language.Calls.{Call, Directive, TaskName}
use Rattle.vt_spec.specs.Lists.{Fresh}
use Rattle.vt_spec.specs.Machine.Invariants.{IsWorld}
use Rattle.vt_spec.specs.Machine.Looks.{Looks, looks_of}
use Rattle.vt_spec.specs.Machine.Outcomes.{Outcome}
use Rattle.vt_spec.specs.Machine.Policy.{policy}
use Rattle.vt_spec.specs.Machine.Run.{Serves}
use Rattle.vt_spec.specs.Machine.SameWorlds.{SameWorlds}
use Rattle.vt_spec.specs.Machine.Sealed.{directed}
use Rattle.vt_spec.specs.Machine.Turns.{entry_rules, routes}
use Rattle.vt_spec.specs.Machine.World.{Task, World}
use Rattle.vt_laws_worlds.specs.OneText.Answered.{IsSameTask}
use Rattle.vt_laws_turns.specs.Dated.{SameDated}
use Rattle.vt_laws_turns.specs.Walks.ByWords.{Aim, begun}
use Rattle.vt_laws_turns.specs.Walks.Walkers.{Walker, one_word}

-- To be the same with all change numbers is an equivalence.
pub record DatedSamenessIsAnEquivalence : Type 0 where
  pub itself : (world : World ℕ) → SameDated world world
  pub back : (one other : World ℕ) → SameDated one other → SameDated other one
  pub onward : (one other last : World ℕ) → SameDated one other → SameDated other last → SameDated one last

-- one answer, and worlds that are the same, with all their change numbers
pub record AreDatedAlike (one other : Outcome ℕ) : Type 0 where
  pub answer : one.answer ≡ other.answer
  pub worlds : SameDated one.world other.world

-- In two such worlds, one of which has all invariants, a call by numbers that are not in use has one answer, and leaves
-- two such worlds.
abbrev pub SameDatedWorldsAreAnsweredAlike : Type 0
SameDatedWorldsAreAnsweredAlike =
    (one other : World ℕ) → SameDated one other → IsWorld nat_eq one → (fresh : Fresh ℕ) → Serves nat_eq one fresh
    → (name : TaskName) (call : Call)
    → AreDatedAlike (policy nat_eq fresh one name call) (policy nat_eq fresh other name call)

-- So has each directive.
abbrev pub SameDatedWorldsAreDirectedAlike : Type 0
SameDatedWorldsAreDirectedAlike =
    (one other : World ℕ) → SameDated one other → (directive : Directive)
    → AreDatedAlike (directed nat_eq one directive) (directed nat_eq other directive)

-- What walks do not look at

-- In two worlds two tasks walk alike: a call has the same rules before its walks and the same routes; each walk begins
-- alike, and from wherever it stands it goes alike by one word.
pub record WalkAlike (one other : Looks ℕ) (task again : Task ℕ) : Type 0 where
  pub rules : (call : Call) → entry_rules nat_eq one task call ≡ entry_rules nat_eq other again call
  pub routes : (call : Call) → routes nat_eq one task call ≡ routes nat_eq other again call
  pub begins : (aim : Aim) (path : List ℕ) → begun nat_eq aim one task path ≡ begun nat_eq aim other again path
  pub goes_on : (walker : Walker ℕ) → one_word nat_eq one task walker ≡ one_word nat_eq other again walker

-- Two tasks that are the same but for their change numbers walk alike,
abbrev pub SameTasksWalkAlike : Type 0
SameTasksWalkAlike =
    (looks : Looks ℕ) (task again : Task ℕ) → IsSameTask task again → WalkAlike looks looks task again

-- also in two worlds that are the same but for change numbers, and for the order of numbers beside trees, one of which
-- has all invariants.
abbrev pub SameWorldsWalkAlike : Type 0
SameWorldsWalkAlike =
    (one other : World ℕ) → SameWorlds one other → IsWorld nat_eq one → (task again : Task ℕ) → IsSameTask task again
    → WalkAlike (looks_of nat_eq one) (looks_of nat_eq other) task again
