-- What a turn leaves: the world and the calls under way that it began with, or those after the call of a task.
use Rattle.std.proofs.Common.{arith, ◌≡◌, refl, ap, ◌∙◌, ⊎_elim, ℕ, nat_eq, true≢false, List, [], ◌∷◌, Option, Some, None}
use Rattle.vt_spec.proofs.Common.{Asks, Call, Calls, Fresh, Item, Nobody, Queued, Refused, Sched, Someone, TaskName, Turned, Who, common_steps, first_of_list, none_is_some, policy, queue_of, turn, without_progress}
use Rattle.vt_laws_rules.proofs.denials.Unchanged.{directive_changes_nothing}
use Rattle.vt_laws_turns.specs.Commits.{Turn}
use Rattle.vt_laws_turns.proofs.TurnShapes.{Shape, is_task_call, turn_shape}
use Rattle.vt_laws_turns.proofs.played.Turning.{Answers, Turns, turn_is}

module _ (sched : Sched ℕ) (given : Turn) where
  -- the call of a task is the first of its queue, and is answered
  pub record Commits (name : TaskName) (call : Call) (fresh : Fresh ℕ) (later : Sched ℕ) : Type 0 where
    pub who : given.0 ≡ Someone name
    pub handed : given.1 ≡ Some fresh
    pub line : ℕ
    pub first : first_of_list (queue_of sched.queues given.0) ≡ Some (record { line = line; item = Calls call })
    pub world : later.world ≡ (policy nat_eq fresh sched.world name call).world
    pub under_way : later.under_way ≡ without_progress name sched.under_way

  pub data Leaves (later : Sched ℕ) : Type 0 where
    Same : later.world ≡ sched.world → Leaves later
    After : (name : TaskName) → (call : Call) → (fresh : Fresh ℕ) → Commits name call fresh later → Leaves later

  -- an answer to a call of a task is that of its last turn
  called : (name : TaskName) (line : ℕ) (call : Call) (fresh : Fresh ℕ) (turned : Turned ℕ) → given.0 ≡ Someone name
      → first_of_list (queue_of sched.queues given.0) ≡ Some (record { line = line; item = Calls call })
      → Answers sched (Someone name) (record { line = line; item = Calls call }) (Some fresh) turned
      → Shape sched given.0 given.1 turned → turned.sched.under_way ≡ without_progress name sched.under_way
  called name line call fresh turned who first done known =
      grind (arith, common_steps, none_is_some, true≢false, is_task_call)

  module _ (turned : Turned ℕ) (shape : Shape sched given.0 given.1 turned) where
    run : (who : Who) (line : ℕ) (item : Item) (new : Option (Fresh ℕ)) → given.0 ≡ who → given.1 ≡ new
        → first_of_list (queue_of sched.queues given.0) ≡ Some (record { line = line; item = item })
        → Answers sched who (record { line = line; item = item }) new turned → Leaves turned.sched
    run (Someone name) line (Calls call) (Some fresh) w f first done = After name call fresh (record {
      who = w;
      handed = f;
      line = line;
      first = first;
      world = done.world;
      under_way = called name line call fresh turned w first done shape;
    })
    run (Someone name) line (Calls call) None w f first done = Same done.world
    run Nobody line (Calls call) new w f first done = Same done.world
    run (Someone name) line (Asks directive) (Some fresh) w f first done =
        Same (done.world ∙ directive_changes_nothing sched.world directive)
    run Nobody line (Asks directive) (Some fresh) w f first done =
        Same (done.world ∙ directive_changes_nothing sched.world directive)
    run (Someone name) line (Asks directive) None w f first done = Same done.world
    run Nobody line (Asks directive) None w f first done = Same done.world
    run (Someone name) line (Refused deny) new w f first done = Same done.world
    run Nobody line (Refused deny) new w f first done = Same done.world

    by_items : (items : List Queued) → queue_of sched.queues given.0 ≡ items
        → Turns sched given.0 given.1 items turned → Leaves turned.sched
    by_items [] e goes = Same goes.world
    by_items (first ∷ rest) e is = ⊎_elim (λ goes. Same goes.world)
        (λ done. run given.0 first.line first.item given.1 refl refl (ap first_of_list e) done) is

  pub turn_leaves : Leaves (turn nat_eq sched given.0 given.1).sched
  turn_leaves = by_items (turn nat_eq sched given.0 given.1) (turn_shape sched given.0 given.1)
      (queue_of sched.queues given.0) refl (turn_is sched given.0 given.1)
