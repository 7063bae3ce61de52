-- The calls of the tasks of a set: with the calls of others between them, as a script has them, and alone (profile).
use Rattle.std.specs.Prelude.{Bool, List, None, Option, Result, Some, [], false, if◌then◌else◌, length, nat_eq, nat_lt, true, ℕ, ⊤, ◌++◌, ◌+◌, ◌||◌, ◌∷◌, ◌≡◌, ◌≤◌}
use Rattle.vt_spec.specs.declared.errors.Deny.{Deny}
use Rattle.vt_spec.specs.Language.Answers.{Answer}
use Rattle.vt_spec.specs.Language.Calls.{Call, TaskName, same_name}
use Rattle.vt_spec.specs.Language.Calls.Call.{Setns}
use Rattle.vt_spec.specs.Language.Limits.{longest_line}
use Rattle.vt_spec.specs.Language.Script.{Grammar, Request, is_silent, request_of}
use Rattle.vt_spec.specs.Language.Script.Request.{Asking, Calling}
use Rattle.vt_spec.specs.Lists.{is_among}
use Rattle.vt_spec.specs.Machine.Invariants.{IsWorld}
use Rattle.vt_spec.specs.Machine.Outcomes.{Outcome}
use Rattle.vt_spec.specs.Machine.Policy.{policy}
use Rattle.vt_spec.specs.Machine.Run.{first_world, numbers_for, world_from}
use Rattle.vt_spec.specs.Machine.Sealed.{sealed}
use Rattle.vt_spec.specs.Machine.World.{World}
use Rattle.vt_laws_rules.specs.Numbers.{KeepsTo}
use Rattle.vt_laws_sealed.specs.Outsiders.{are_all_called}
use Rattle.vt_laws_members.specs.Changes.Changes.{grown}

-- a call, with the name of its task
abbrev pub Asked : Type 0
Asked = Option (TaskName × Call)

abbrev pub asked_by : Option Request → Asked
asked_by None = None
asked_by (Some (Calling name call)) = Some (name, call)
asked_by (Some (Asking directive)) = None

-- the call that a line asks for; a silent line, a directive and what is refused by S1 ask for none
abbrev pub asked : Grammar → List ℕ → Asked
asked grammar line =
    if nat_lt longest_line (length line) || is_silent line then None else asked_by (request_of grammar line)

-- where a run stands: before the line of this number, in this world, with the tasks of these names in the set
pub record Stand : Type 0 where
  pub number : ℕ
  pub world : World ℕ
  pub names : List TaskName

-- what a call does there, with the numbers that its line is handed
abbrev pub outcome_at : Stand → TaskName → Call → Outcome ℕ
outcome_at at name call = policy nat_eq (numbers_for at.number) at.world name call

-- after a line whose call is not made
abbrev pub passed : Stand → Stand
passed at = record { number = at.number + 1; world = at.world; names = at.names }

-- after a call of one of the others
abbrev pub after_others : Stand → TaskName → Call → Stand
after_others at name call =
    record { number = at.number + 1; world = (outcome_at at name call).world; names = at.names }

-- after a call of one of theirs, with the set that it leaves
abbrev pub after_theirs : Stand → TaskName → Call → Stand
after_theirs at name call = record {
  number = at.number + 1;
  world = (outcome_at at name call).world;
  names = grown at.names name call (outcome_at at name call).answer;
}

-- after a call, if the run makes those of others, or if it does not
abbrev pub moved : (others theirs : Bool) → Stand → TaskName → Call → Stand
moved others true at name call = after_theirs at name call
moved true false at name call = after_others at name call
moved false false at name call = passed at

abbrev pub next : (others : Bool) → Stand → Asked → Stand
next others at None = passed at
next others at (Some call) = moved others (is_among same_name call.0 at.names) at call.0 call.1

-- the answer to a call, if it is one of theirs
abbrev pub told : (theirs : Bool) → Outcome ℕ → List (Result Answer Deny)
told true outcome = outcome.answer ∷ []
told false outcome = []

abbrev pub answer_here : Stand → Asked → List (Result Answer Deny)
answer_here at None = []
answer_here at (Some call) = told (is_among same_name call.0 at.names) (outcome_at at call.0 call.1)

-- the answers to the calls of the set, with the calls of others or without them
abbrev pub own_answers : (others : Bool) → Stand → List Asked → List (Result Answer Deny)
own_answers others at [] = []
own_answers others at (call ∷ calls) = answer_here at call ++ own_answers others (next others at call) calls

-- something holds of each call of a script, where the run stands before it
abbrev pub IfAsked : (Stand → TaskName → Call → Type 0) → Stand → Asked → Type 0
IfAsked Holds at None = ⊤
IfAsked Holds at (Some call) = Holds at call.0 call.1

abbrev pub Along : (Stand → TaskName → Call → Type 0) → (others : Bool) → Stand → List Asked → Type 0
Along Holds others at [] = ⊤
Along Holds others at (call ∷ calls) = IfAsked Holds at call × Along Holds others (next others at call) calls

-- after a call of theirs the set is sealed off
abbrev pub LeavesItSealed : Stand → TaskName → Call → Type 0
LeavesItSealed at name call =
    is_among same_name name at.names ≡ true
    → sealed nat_eq (after_theirs at name call).world (after_theirs at name call).names ≡ true

-- a call of theirs enters no namespace but one of theirs, and one of others none of theirs: setns(2)
abbrev pub StaysOnItsSide : Stand → TaskName → Call → Type 0
StaysOnItsSide at name call =
    (member : TaskName) → call ≡ Setns member
    → is_among same_name member at.names ≡ is_among same_name name at.names

-- A world keeps to some numbers, of which none is handed to the line of this number, or to a later one.
pub record HasEarlierNumbers (number : ℕ) (world : World ℕ) : Type 0 where
  pub named : ℕ → Bool
  pub keeps : KeepsTo named world
  pub later : (line place : ℕ) → number ≤ line → named (numbers_for line place) ≡ false

-- Here the set is sealed off, each of its names is the name of a task, and lines are counted from 1.
pub record IsSealedOffAt (at : Stand) : Type 0 where
  pub is : IsWorld nat_eq at.world
  pub there : are_all_called at.world at.names ≡ true
  pub sealed_off : sealed nat_eq at.world at.names ≡ true
  pub counted : 1 ≤ at.number
  pub numbers : HasEarlierNumbers at.number at.world

-- The set is sealed off after each of its calls, if these are made alone, and no call changes sides.
pub record StaysSealed (at : Stand) (calls : List Asked) : Type 0 where
  pub alone : Along LeavesItSealed false at calls
  pub sides : Along StaysOnItsSide true at calls

-- where a run stands after these lines of a script, from the opening world on, with a set of tasks
abbrev pub stand_after : Grammar → List (List ℕ) → List TaskName → Stand
stand_after grammar lines names =
    record { number = 1 + length lines; world = world_from grammar first_world 1 lines; names = names }

-- There the world has all invariants, and none of the numbers that are handed to later lines.
abbrev pub SealedSetsStandSo : Type 0
SealedSetsStandSo =
    (grammar : Grammar) (lines : List (List ℕ)) (names : List TaskName)
    → are_all_called (stand_after grammar lines names).world names ≡ true
    → sealed nat_eq (stand_after grammar lines names).world names ≡ true
    → IsSealedOffAt (stand_after grammar lines names)
