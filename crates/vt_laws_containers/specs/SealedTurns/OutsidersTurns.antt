-- What a turn of a task outside a sealed set leaves of the set (profile).
use Rattle.std.specs.Prelude.{Bool, List, Some, [], false, filter, nat_eq, true, ℕ, ⊤, ◌∷◌, ◌≡◌}
use Rattle.vt_spec.specs.Language.Calls.{Call, TaskName, same_name}
use Rattle.vt_spec.specs.Language.Calls.Call.{Setns}
use Rattle.vt_spec.specs.Language.Script.{Who}
use Rattle.vt_spec.specs.Language.Script.Who.{Nobody, Someone}
use Rattle.vt_spec.specs.Lists.{Fresh, first_of_list, is_among}
use Rattle.vt_spec.specs.Machine.Invariants.{IsWorld}
use Rattle.vt_spec.specs.Machine.Run.{Serves}
use Rattle.vt_spec.specs.Machine.Sealed.{part_of, sealed}
use Rattle.vt_spec.specs.Machine.Turns.{Progress, Sched, queue_of, turn}
use Rattle.vt_spec.specs.Machine.Turns.Item.{Calls}
use Rattle.vt_laws_trees.specs.Trees.Limits.{names_few_groups}
use Rattle.vt_laws_sealed.specs.Outsiders.{LeavesItSealed, are_all_called}
use Rattle.vt_laws_turns.specs.Commits.{Turn, left_by}

-- the queue is that of a task of the set
abbrev pub is_of_theirs : List TaskName → Who → Bool
is_of_theirs names (Someone name) = is_among same_name name names
is_of_theirs names Nobody = false

-- the calls under way of tasks of the set
abbrev pub their_calls : List TaskName → List (Progress ℕ) → List (Progress ℕ)
their_calls names under_way = filter (λ progress. is_among same_name progress.task names) under_way

-- this call is the first of a queue
abbrev pub IsFirst : Sched ℕ → Who → Call → Type 0
IsFirst sched who call =
    (line : ℕ) × (first_of_list (queue_of sched.queues who) ≡ Some (record { line = line; item = Calls call }))

-- the world of a scheduler's state has all invariants, and the set is sealed off in it
pub record HasItSealed (sched : Sched ℕ) (names : List TaskName) : Type 0 where
  pub is : IsWorld nat_eq sched.world
  pub sealed_off : sealed nat_eq sched.world names ≡ true
  -- a name without a task could be that of a child of another task
  pub there : are_all_called sched.world names ≡ true

-- a turn of a task outside the set, or of `!`, by numbers that are not in use, whose call enters no namespace of theirs
pub record IsOutsidersTurn (sched : Sched ℕ) (names : List TaskName) (given : Turn) : Type 0 where
  pub outside : is_of_theirs names given.0 ≡ false
  pub apart : (member : TaskName) → IsFirst sched given.0 (Setns member) → is_among same_name member names ≡ false
  pub few_groups : (call : Call) → IsFirst sched given.0 call → names_few_groups call ≡ true
  pub serves : (fresh : Fresh ℕ) → given.1 ≡ Some fresh → Serves nat_eq sched.world fresh

-- the set is sealed off, its part is as it was, others have no foothold where they had none, and its tasks have the
-- calls under way and the queues that they had
pub record LeavesTheirs (sched later : Sched ℕ) (names : List TaskName) : Type 0 where
  pub world : LeavesItSealed sched.world later.world names
  pub calls : their_calls names later.under_way ≡ their_calls names sched.under_way
  pub queues : (member : TaskName) → is_among same_name member names ≡ true
      → queue_of later.queues (Someone member) ≡ queue_of sched.queues (Someone member)

-- So does each turn of an outsider.
abbrev pub OutsidersTurnsLeaveASealedSet : Type 0
OutsidersTurnsLeaveASealedSet =
    (sched : Sched ℕ) (names : List TaskName) (given : Turn) → HasItSealed sched names
    → IsOutsidersTurn sched names given → LeavesTheirs sched (turn nat_eq sched given.0 given.1).sched names

-- Turns of outsiders, each in the state that those before it leave
abbrev pub AreOutsidersTurns : Sched ℕ → List TaskName → List Turn → Type 0
AreOutsidersTurns sched names [] = ⊤
AreOutsidersTurns sched names (given ∷ rest) =
    IsOutsidersTurn sched names given × AreOutsidersTurns (turn nat_eq sched given.0 given.1).sched names rest

-- the set is sealed off after them, with the part, the calls under way and the queues that it had
pub record LeaveTheirs (sched later : Sched ℕ) (names : List TaskName) : Type 0 where
  pub sealed_off : HasItSealed later names
  pub part : part_of nat_eq later.world names ≡ part_of nat_eq sched.world names
  pub calls : their_calls names later.under_way ≡ their_calls names sched.under_way
  pub queues : (member : TaskName) → is_among same_name member names ≡ true
      → queue_of later.queues (Someone member) ≡ queue_of sched.queues (Someone member)

-- However many there are, they leave it so.
abbrev pub OutsidersTurnsLeaveItSealedInTurn : Type 0
OutsidersTurnsLeaveItSealedInTurn =
    (sched : Sched ℕ) (names : List TaskName) (schedule : List Turn) → HasItSealed sched names
    → AreOutsidersTurns sched names schedule → LeaveTheirs sched (left_by sched schedule) names
