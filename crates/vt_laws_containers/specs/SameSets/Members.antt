-- Calls of tasks of a sealed set in worlds that are the same as the policy's, and in the part of the set (profile).
use Rattle.std.specs.Prelude.{List, Result, nat_eq, ℕ, ◌≡◌}
use Rattle.vt_spec.specs.declared.errors.Deny.{Deny}
use Rattle.vt_spec.specs.Language.Answers.{Answer}
use Rattle.vt_spec.specs.Language.Calls.{Call, TaskName}
use Rattle.vt_spec.specs.Lists.{Fresh}
use Rattle.vt_spec.specs.Machine.Invariants.{IsWorld}
use Rattle.vt_spec.specs.Machine.Outcomes.{Outcome}
use Rattle.vt_spec.specs.Machine.Policy.{policy}
use Rattle.vt_spec.specs.Machine.SameWorlds.{SameWorlds}
use Rattle.vt_spec.specs.Machine.Sealed.{part_of}
use Rattle.vt_spec.specs.Machine.World.{World}
use Rattle.vt_laws_members.specs.Changes.Changes.{EndsAlike, grown}

-- the answer is that of the outcome, and of a set both worlds have parts that are the same
pub record EndsTheSame (names : List TaskName) (answer : Result Answer Deny) (later : World ℕ)
    (outcome : Outcome ℕ) : Type 0 where
  pub answered : answer ≡ outcome.answer
  pub part : SameWorlds (part_of nat_eq later names) (part_of nat_eq outcome.world names)

-- A call that ends alike in a world and in the part of the set has that answer in each world that is the same as it.
-- Each world that is the same as the one left there has, for the set that the call leaves, a part that is the same as
-- the part of what is left in the part.
abbrev pub CallsEndAlikeInSameWorlds : Type 0
CallsEndAlikeInSameWorlds =
    (world other : World ℕ) → SameWorlds world other → IsWorld nat_eq world
    → (names : List TaskName) (name : TaskName) (call : Call) (fresh given : Fresh ℕ)
    → EndsAlike world names name call fresh given
    → (later : World ℕ) → SameWorlds (policy nat_eq fresh other name call).world later
    → EndsTheSame (grown names name call (policy nat_eq fresh other name call).answer)
    (policy nat_eq fresh other name call).answer later
    (policy nat_eq given (part_of nat_eq world names) name call)
