-- A turn of an outsider changes the world by a call of the outsider, and no queue and no call under way of theirs.
use Rattle.std.proofs.Common.{◌≡◌, refl, sym, ap, subst, ◌∙◌, ℕ, nat_eq, Bool, true, false, cond, not, List, [], ◌∷◌, Some, map}
use Rattle.vt_spec.proofs.Common.{Call, Fresh, IsWorld, Progress, Sched, Someone, TaskName, Turned, World, is_among, members, one_further, policy, queue_of, same_name, same_who, shortened, task_called, turn, without_progress}
use Rattle.vt_laws_containers.proofs.Common.{LeavesItSealed, Shape, Turn, called_alike, every_call_keeps_worlds, left_by, outsiders_leave_a_sealed_set, same_whos, shorter, still_called, turn_shape}
use Rattle.vt_laws_turns.proofs.TurnShapes.Shape.{CallDone, Further, Idle, OtherDone}
use Rattle.vt_laws_turns.proofs.played.Leaving.{Leaves, turn_leaves}
use Rattle.vt_laws_turns.proofs.played.Leaving.Leaves.{After, Same}
use Rattle.vt_laws_turns.proofs.restarts.Keeping.{named}
use Rattle.vt_laws_containers.specs.SealedTurns.OutsidersTurns.{AreOutsidersTurns, HasItSealed, IsFirst, IsOutsidersTurn, LeaveTheirs, OutsidersTurnsLeaveASealedSet, OutsidersTurnsLeaveItSealedInTurn, is_of_theirs, their_calls}

module _ (sched : Sched ℕ) (names : List TaskName) (given : Turn) (has : HasItSealed sched names)
    (outsider : IsOutsidersTurn sched names given) where
  -- the world that a turn leaves: all invariants hold, and theirs is sealed off
  pub record LeavesAWorld (later : World ℕ) : Type 0 where
    pub is : IsWorld nat_eq later
    pub leaves : LeavesItSealed sched.world later names

  stays : (later : World ℕ) → later ≡ sched.world → LeavesAWorld later
  stays later same = subst LeavesAWorld (sym same) (record {
    is = has.is;
    leaves = record { sealed_off = has.sealed_off; part = refl; no_more = λ filesystem there alone. alone };
  })

  called : (name : TaskName) (call : Call) (fresh : Fresh ℕ) → given.0 ≡ Someone name → given.1 ≡ Some fresh
      → IsFirst sched given.0 call → LeavesAWorld (policy nat_eq fresh sched.world name call).world
  called name call fresh who new first =
      let few = outsider.few_groups call first in
      let serves = outsider.serves fresh new in
      record {
        is = every_call_keeps_worlds sched.world fresh name call has.is serves few;
        leaves = outsiders_leave_a_sealed_set sched.world fresh names name call (record {
          is = has.is;
          sealed_off = has.sealed_off;
          there = has.there;
          outside = cc (outsider.outside);
          apart = λ member e. outsider.apart member (subst (IsFirst sched given.0) e first);
          serves = serves;
          few_groups = few;
        });
      }

  pub turn_leaves_a_world : LeavesAWorld (turn nat_eq sched given.0 given.1).sched.world
  turn_leaves_a_world = by (turn_leaves sched given)
    where
      later : Sched ℕ
      later = (turn nat_eq sched given.0 given.1).sched

      by : Leaves sched given later → LeavesAWorld later.world
      by (Same same) = stays later.world same
      by (After name call fresh commits) = subst LeavesAWorld (sym commits.world)
          (called name call fresh commits.who commits.handed (commits.line, commits.first))

  -- their queues
  queues_stay : (member : TaskName) → is_among same_name member names ≡ true
      → queue_of (map (shortened given.0) sched.queues) (Someone member) ≡ queue_of sched.queues (Someone member)
  queues_stay member theirs = cc (shorter _ _ _, other _ refl)
    where
      other : (b : Bool) → same_who (Someone member) given.0 ≡ b → b ≡ false
      other false e = refl
      other true e = cc (same_whos (Someone member) given.0 e, outsider.outside)

  -- their calls under way
  calls_left : (name : TaskName) → given.0 ≡ Someone name → (under_way : List (Progress ℕ))
      → their_calls names (without_progress name under_way) ≡ their_calls names under_way
  calls_left name w [] = refl
  calls_left name w (progress ∷ rest) =
      by (is_among same_name progress.task names) (same_name name progress.task) refl refl (calls_left name w rest)
    where
      by : (b c : Bool) → is_among same_name progress.task names ≡ b → same_name name progress.task ≡ c
          → their_calls names (without_progress name rest) ≡ their_calls names rest
          → their_calls names (cond (not c) (progress ∷ without_progress name rest) (without_progress name rest))
          ≡ cond b (progress ∷ their_calls names rest) (their_calls names rest)
      by true true e f later =
          let same : Someone name ≡ Someone progress.task = same_whos (Someone name) (Someone progress.task) f in
          absurd (cc (e, same, w, outsider.outside))
      by false true e f later = later
      by true false e f later = cc
      by false false e f later = cc

  pub record LeavesCalls (later : Sched ℕ) : Type 0 where
    pub calls : their_calls names later.under_way ≡ their_calls names sched.under_way
    pub queues : (member : TaskName) → is_among same_name member names ≡ true
        → queue_of later.queues (Someone member) ≡ queue_of sched.queues (Someone member)

  by_shape : (turned : Turned ℕ) → Shape sched given.0 given.1 turned → LeavesCalls turned.sched
  by_shape turned (Idle e is) = subst (λ (t : Turned ℕ). LeavesCalls t.sched) (sym is)
      (record { calls = refl; queues = λ member among. refl })
  by_shape turned (OtherDone first f none outcome e) =
      subst (λ (t : Turned ℕ). LeavesCalls t.sched) (sym e) (record { calls = refl; queues = queues_stay })
  by_shape turned (CallDone name w line call f _ e) = subst (λ (t : Turned ℕ). LeavesCalls t.sched) (sym e) (record {
    calls = calls_left name w _;
    queues = λ member among. cc (w, queues_stay _ among);
  })
  by_shape turned (Further task w line call new g next before at further) =
      let its : before.task ≡ task.name = named sched task before at in
      let who : given.0 ≡ Someone before.task = cc (its) in
      subst (λ (t : Turned ℕ). LeavesCalls t.sched) (sym further.is) (record {
        calls = ap (λ b. cond b (one_further nat_eq sched.world further.met before
            ∷ their_calls names (without_progress before.task sched.under_way))
            (their_calls names (without_progress before.task sched.under_way)))
            (sym (ap (is_of_theirs names) who) ∙ outsider.outside) ∙ calls_left before.task who sched.under_way;
        queues = λ member among. refl;
      })

  pub turn_leaves_calls : LeavesCalls (turn nat_eq sched given.0 given.1).sched
  turn_leaves_calls = by_shape (turn nat_eq sched given.0 given.1) (turn_shape sched given.0 given.1)

pub outsiders_turns_leave_a_sealed_set : OutsidersTurnsLeaveASealedSet
outsiders_turns_leave_a_sealed_set sched names given has outsider =
    let calls = turn_leaves_calls sched names given has outsider in record {
      world = (turn_leaves_a_world sched names given has outsider).leaves;
      calls = calls.calls;
      queues = calls.queues;
    }

-- Names of theirs are those of the tasks that they were
pub called_so : (world later : World ℕ) (names : List TaskName) → members later names ≡ members world names
    → (member : TaskName) → is_among same_name member names ≡ true → task_called later member ≡ task_called world member
called_so world later names same member theirs =
    cc (called_alike names member theirs later.tasks, called_alike names member theirs world.tasks)

in_turn : (schedule : List Turn) (sched : Sched ℕ) (names : List TaskName) → HasItSealed sched names
    → AreOutsidersTurns sched names schedule → LeaveTheirs sched (left_by sched schedule) names
in_turn [] sched names has of = record { sealed_off = has; part = refl; calls = refl; queues = λ member theirs. refl }
in_turn (given ∷ rest) sched names has of =
    let later : Sched ℕ = (turn nat_eq sched given.0 given.1).sched in
    let world = turn_leaves_a_world sched names given has of.0 in
    let calls = turn_leaves_calls sched names given has of.0 in
    let still : HasItSealed later names = record {
      is = world.is;
      sealed_off = world.leaves.sealed_off;
      there = still_called sched.world later.world names (ap (λ (part : World ℕ). part.tasks) world.leaves.part)
          has.there;
    } in
    let after = in_turn rest later names still of.1 in record {
      sealed_off = after.sealed_off;
      part = after.part ∙ world.leaves.part;
      calls = after.calls ∙ calls.calls;
      queues = λ member theirs. after.queues member theirs ∙ calls.queues member theirs;
    }

pub outsiders_turns_leave_it_sealed_in_turn : OutsidersTurnsLeaveItSealedInTurn
outsiders_turns_leave_it_sealed_in_turn sched names schedule has of = in_turn schedule sched names has of
