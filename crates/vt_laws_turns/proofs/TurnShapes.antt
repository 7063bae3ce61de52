-- What a turn leaves, by what stands first in its queue.
use Rattle.std.proofs.Common.{◌≡◌, refl, sym, ap, subst, inl, inr, ℕ, nat_eq, Bool, true, false, List, [], ◌∷◌, Option, Some, None, ◌+◌, nat_le}
use Rattle.vt_spec.proofs.Common.{Asks, Call, Calls, Fresh, Item, Nobody, Outcome, Progress, Queued, Refused, Sched, Someone, Task, TaskName, Turned, Who, call_turn_of, denial, denied, directed, first_of_list, first_progress, found_passes, is_overtaken, most_restarts, policy, queue_of, queue_turn, same_name, same_task_name, task_called, turn}
use Rattle.vt_laws_turns.proofs.Common.{S2, S5, call_replied, replied}
use Rattle.vt_laws_turns.specs.Restarts.{IsNextOf, is_call, under_way_of}
use Rattle.vt_laws_turns.proofs.TurnKinds.{GoesFurther, IsWalked, TurnKind, turn_of_call}
use Rattle.vt_laws_turns.proofs.TurnKinds.TurnKind.{Begins, GoesOn, Restarts, Whole}

-- what is under way before the next word is walked: the call begins, goes on, or restarts
pub data Before (sched : Sched ℕ) (task : Task ℕ) (before : Progress ℕ) : Type 0 where
  AtStart : under_way_of sched.under_way task.name ≡ None → before ≡ first_progress nat_eq sched.world task 0
      → Before sched task before
  OnWay : under_way_of sched.under_way task.name ≡ Some before
      → is_overtaken nat_eq sched.world task before ≡ false → Before sched task before
  Again : (progress : Progress ℕ) → under_way_of sched.under_way task.name ≡ Some progress
      → is_overtaken nat_eq sched.world task progress ≡ true → nat_le most_restarts progress.restarts ≡ false
      → before ≡ first_progress nat_eq sched.world task (progress.restarts + 1) → Before sched task before

-- what stands first is a call of a task
abbrev pub is_task_call : Who → Item → Bool
is_task_call (Someone name) item = is_call item
is_task_call Nobody item = false

pub data Shape (sched : Sched ℕ) (who : Who) (fresh : Option (Fresh ℕ)) (turned : Turned ℕ) : Type 0 where
  Idle : queue_of sched.queues who ≡ [] → turned ≡ record { sched = sched; reply = None } → Shape sched who fresh turned
  OtherDone : (first : Queued) → first_of_list (queue_of sched.queues who) ≡ Some first
      → is_task_call who first.item ≡ false → (outcome : Outcome ℕ)
      → turned ≡ replied sched who first.line sched.under_way outcome → Shape sched who fresh turned
  CallDone : (name : TaskName) → who ≡ Someone name → (line : ℕ) → (call : Call)
      → first_of_list (queue_of sched.queues who) ≡ Some (record { line = line; item = Calls call })
      → (outcome : Outcome ℕ) → turned ≡ call_replied sched name line outcome → Shape sched who fresh turned
  Further : (task : Task ℕ) → who ≡ Someone task.name → (line : ℕ) → (call : Call) → (given : Fresh ℕ)
      → fresh ≡ Some given → IsNextOf sched task line call → (before : Progress ℕ) → Before sched task before
      → GoesFurther sched task line call given before turned → Shape sched who fresh turned

module _ (sched : Sched ℕ) where
  by_kind : (task : Task ℕ) (line : ℕ) (call : Call) (given : Fresh ℕ) → IsNextOf sched task line call
      → (turned : Turned ℕ) → TurnKind sched task line call given turned
      → Shape sched (Someone task.name) (Some given) turned
  by_kind task line call given next turned kind = of kind
    where
      goes : (before : Progress ℕ) → Before sched task before → IsWalked sched task line call given before turned
          → Shape sched (Someone task.name) (Some given) turned
      goes before at (inl is) =
          CallDone task.name refl line call next.first (policy nat_eq given sched.world task.name call) is
      goes before at (inr further) = Further task refl line call given refl next before at further

      of : TurnKind sched task line call given turned → Shape sched (Someone task.name) (Some given) turned
      of (Begins none walked) = goes (first_progress nat_eq sched.world task 0) (AtStart none refl) walked
      of (GoesOn progress found current walked) = goes progress (OnWay found current) walked
      of (Restarts progress found stale few walked) =
          goes (first_progress nat_eq sched.world task (progress.restarts + 1)) (Again progress found stale few refl)
          walked
      of (Whole progress found stale many is) =
          CallDone task.name refl line call next.first (policy nat_eq given sched.world task.name call) is

  by_items : (who : Who) (fresh : Option (Fresh ℕ)) (items : List Queued) → queue_of sched.queues who ≡ items
      → Shape sched who fresh (queue_turn nat_eq sched who items fresh)
  unfolding turn
  by_items who fresh items e = of who fresh items e
    where
      firsts : (w : Who) (line : ℕ) (item : Item) (rest : List Queued)
          → queue_of sched.queues w ≡ record { line = line; item = item } ∷ rest
          → first_of_list (queue_of sched.queues w) ≡ Some (record { line = line; item = item })
      firsts w line item rest f = ap first_of_list f

      by_task : (name : TaskName) (line : ℕ) (call : Call) (given : Fresh ℕ) (rest : List Queued)
          → queue_of sched.queues (Someone name) ≡ record { line = line; item = Calls call } ∷ rest
          → (found : Option (Task ℕ)) → task_called sched.world name ≡ found → Shape sched (Someone name) (Some given)
          (queue_turn nat_eq sched (Someone name) (record { line = line; item = Calls call } ∷ rest) (Some given))
      by_task name line call given rest f None t =
          CallDone name refl line call (firsts (Someone name) line (Calls call) rest f)
          (policy nat_eq given sched.world name call)
          (ap (λ found. call_turn_of nat_eq sched name line call given found) t)
      by_task name line call given rest f (Some task) t =
          let same : name ≡ task.name = same_task_name name task.name
          (found_passes (λ (other : Task ℕ). same_name name other.name) sched.world.tasks task t) in
          subst (λ n. Shape sched (Someone n) (Some given)
          (queue_turn nat_eq sched (Someone n) (record { line = line; item = Calls call } ∷ rest) (Some given)))
          (sym same) (at_queue task line call given rest (cc (same))
          (cc (same)))
        where
          at_queue : (task : Task ℕ) (line : ℕ) (call : Call) (given : Fresh ℕ) (rest : List Queued)
              → queue_of sched.queues (Someone task.name) ≡ record { line = line; item = Calls call } ∷ rest
              → task_called sched.world task.name ≡ Some task → Shape sched (Someone task.name) (Some given)
              (queue_turn nat_eq sched (Someone task.name) (record { line = line; item = Calls call } ∷ rest)
              (Some given))
          at_queue task line call given rest f t =
              subst (λ (items : List Queued). Shape sched (Someone task.name) (Some given)
              (queue_turn nat_eq sched (Someone task.name) items (Some given))) f (by_kind task line call given
              (record { called = t; first = firsts (Someone task.name) line (Calls call) rest f })
              (turn nat_eq sched (Someone task.name) (Some given)) (turn_of_call sched task line call given
              (record { called = t; first = firsts (Someone task.name) line (Calls call) rest f })))

      by_item : (w : Who) (f : Option (Fresh ℕ)) (line : ℕ) (item : Item) (rest : List Queued)
          → queue_of sched.queues w ≡ record { line = line; item = item } ∷ rest
          → Shape sched w f (queue_turn nat_eq sched w (record { line = line; item = item } ∷ rest) f)
      by_item (Someone name) None line (Calls call) rest q =
          CallDone name refl line call (firsts (Someone name) line (Calls call) rest q)
          (denied sched.world (denial S5)) refl
      by_item (Someone name) (Some given) line (Calls call) rest q =
          by_task name line call given rest q (task_called sched.world name) refl
      by_item Nobody f line (Calls call) rest q =
          OtherDone (record { line = line; item = Calls call }) (firsts Nobody line (Calls call) rest q) refl
          (denied sched.world (denial S2)) refl
      by_item (Someone name) None line (Asks directive) rest q =
          OtherDone (record { line = line; item = Asks directive }) (firsts (Someone name) line (Asks directive) rest q)
          refl (denied sched.world (denial S5)) refl
      by_item (Someone name) (Some given) line (Asks directive) rest q =
          OtherDone (record { line = line; item = Asks directive }) (firsts (Someone name) line (Asks directive) rest q)
          refl (directed nat_eq sched.world directive) refl
      by_item Nobody None line (Asks directive) rest q =
          OtherDone (record { line = line; item = Asks directive }) (firsts Nobody line (Asks directive) rest q)
          refl (denied sched.world (denial S5)) refl
      by_item Nobody (Some given) line (Asks directive) rest q =
          OtherDone (record { line = line; item = Asks directive }) (firsts Nobody line (Asks directive) rest q)
          refl (directed nat_eq sched.world directive) refl
      by_item (Someone name) f line (Refused deny) rest q =
          OtherDone (record { line = line; item = Refused deny }) (firsts (Someone name) line (Refused deny) rest q)
          refl (denied sched.world deny) refl
      by_item Nobody f line (Refused deny) rest q =
          OtherDone (record { line = line; item = Refused deny }) (firsts Nobody line (Refused deny) rest q)
          refl (denied sched.world deny) refl

      of : (w : Who) (f : Option (Fresh ℕ)) (items : List Queued) → queue_of sched.queues w ≡ items
          → Shape sched w f (queue_turn nat_eq sched w items f)
      of w f [] q = Idle q refl
      of w f (first ∷ rest) q = by_item w f first.line first.item rest q

  -- each turn has one of these shapes
  pub turn_shape : (who : Who) (fresh : Option (Fresh ℕ)) → Shape sched who fresh (turn nat_eq sched who fresh)
  unfolding turn
  turn_shape who fresh = by_items who fresh (queue_of sched.queues who) refl
