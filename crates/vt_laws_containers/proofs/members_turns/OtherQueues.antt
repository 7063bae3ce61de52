-- A turn looks at no queue but its own.
use Rattle.std.proofs.Common.{arith, ◌≡◌, refl, ap, subst, ◌∙◌, sym, ℕ, nat_eq, Bool, true, false, cond, List, [], ◌∷◌, ◌+◌, Option, Some, None, Ok, Err, Result, find, nat_le, slice_get}
use Rattle.vt_spec.proofs.Common.{Asks, Call, Calls, Fresh, Item, Progress, Queue, Queued, Refused, Reply, Route, Sched, Someone, Task, TaskName, Turned, Who, World, call_turn, call_turn_of, common_steps, entry_rules, first_progress, first_turn, first_turn_by, further, is_among, is_failing, is_overtaken, item_turn, later_turn, looks_of, most_restarts, next_word, queue_of, queue_turn, rest_of, restarted, routes, same_name, same_who, task_called, turn, turn_under_way, unless, word_walked_by, words_of}
use Rattle.vt_laws_containers.proofs.Common.{Deny, GoesOn, Turn, Turns, same_whos, shorter, turn_is}
use Rattle.vt_laws_containers.specs.SealedTurns.OutsidersTurns.{is_of_theirs}

-- two turns have one reply, and leave one world and the same calls under way
pub record SameTurned (one other : Turned ℕ) : Type 0 where
  pub reply : other.reply ≡ one.reply
  pub world : other.sched.world ≡ one.sched.world
  pub under_way : other.sched.under_way ≡ one.sched.under_way

module _ (world : World ℕ) (under_way : List (Progress ℕ)) (queues others : List Queue) where
  abbrev pub one : Sched ℕ
  one = record { world = world; queues = queues; under_way = under_way }

  abbrev pub other : Sched ℕ
  other = record { world = world; queues = others; under_way = under_way }

  module _ (line : ℕ) (call : Call) (fresh : Fresh ℕ) where
    word : (fails : Bool) (before : Progress ℕ) (met : List ℕ)
        → SameTurned (word_walked_by nat_eq fails one line call fresh before met)
        (word_walked_by nat_eq fails other line call fresh before met)
    word true before met = record { reply = refl; world = refl; under_way = refl }
    word false before met = record { reply = refl; world = refl; under_way = refl }

    next : (before : Progress ℕ) (ways : List (Route ℕ)) (met : Option (List ℕ))
        → SameTurned (next_word nat_eq one line call fresh before ways met)
        (next_word nat_eq other line call fresh before ways met)
    next before ways None = record { reply = refl; world = refl; under_way = refl }
    next before ways (Some met) = word (is_failing ways before.walked) before met

    on : (task : Task ℕ) (before : Progress ℕ)
        → SameTurned (further nat_eq one task line call fresh before) (further nat_eq other task line call fresh before)
    on task before =
        let ways : List (Route ℕ) = routes nat_eq (looks_of nat_eq world) task call in
        next before ways (slice_get (words_of ways) before.walked)

    entry : (rules : Result Call Deny) (task : Task ℕ) (restarts : ℕ)
        → SameTurned (first_turn_by nat_eq rules one task line call fresh restarts)
        (first_turn_by nat_eq rules other task line call fresh restarts)
    entry (Err deny) task restarts = record { reply = refl; world = refl; under_way = refl }
    entry (Ok same) task restarts = on task (first_progress nat_eq world task restarts)

    first : (task : Task ℕ) (restarts : ℕ) → SameTurned (first_turn nat_eq one task line call fresh restarts)
        (first_turn nat_eq other task line call fresh restarts)
    first task restarts = entry (unless (entry_rules nat_eq (looks_of nat_eq world) task call) (Ok call)) task restarts

    again : (most : Bool) (task : Task ℕ) (progress : Progress ℕ)
        → SameTurned (restarted nat_eq most one task line call fresh progress)
        (restarted nat_eq most other task line call fresh progress)
    again true task progress = record { reply = refl; world = refl; under_way = refl }
    again false task progress = first task (progress.restarts + 1)

    later : (stale : Bool) (task : Task ℕ) (progress : Progress ℕ)
        → SameTurned (later_turn nat_eq stale one task line call fresh progress)
        (later_turn nat_eq stale other task line call fresh progress)
    later true task progress = again (nat_le most_restarts progress.restarts) task progress
    later false task progress = on task progress

    under : (task : Task ℕ) (progress : Option (Progress ℕ))
        → SameTurned (turn_under_way nat_eq one task line call fresh progress)
        (turn_under_way nat_eq other task line call fresh progress)
    under task None = first task 0
    under task (Some progress) = later (is_overtaken nat_eq world task progress) task progress

    called : (name : TaskName) (task : Option (Task ℕ)) → SameTurned (call_turn_of nat_eq one name line call fresh task)
        (call_turn_of nat_eq other name line call fresh task)
    called name None = record { reply = refl; world = refl; under_way = refl }
    called name (Some task) = under task (find (λ (p : Progress ℕ). same_name name p.task) under_way)

  of_call : (name : TaskName) (line : ℕ) (call : Call) (fresh : Option (Fresh ℕ))
      → SameTurned (call_turn nat_eq one name line call fresh) (call_turn nat_eq other name line call fresh)
  of_call name line call None = record { reply = refl; world = refl; under_way = refl }
  of_call name line call (Some fresh) = called line call fresh name (task_called world name)

  of_item : (name : TaskName) (line : ℕ) (item : Item) (fresh : Option (Fresh ℕ))
      → SameTurned (item_turn nat_eq one (Someone name) line item fresh)
      (item_turn nat_eq other (Someone name) line item fresh)
  of_item name line (Calls call) fresh = of_call name line call fresh
  of_item name line (Asks directive) None = record { reply = refl; world = refl; under_way = refl }
  of_item name line (Asks directive) (Some fresh) = record { reply = refl; world = refl; under_way = refl }
  of_item name line (Refused deny) fresh = record { reply = refl; world = refl; under_way = refl }

  of_items : (name : TaskName) (items : List Queued) (fresh : Option (Fresh ℕ))
      → SameTurned (queue_turn nat_eq one (Someone name) items fresh)
      (queue_turn nat_eq other (Someone name) items fresh)
  of_items name [] fresh = record { reply = refl; world = refl; under_way = refl }
  of_items name (first ∷ rest) fresh = of_item name first.line first.item fresh

  pub same_turned : (name : TaskName) (fresh : Option (Fresh ℕ))
      → queue_of others (Someone name) ≡ queue_of queues (Someone name)
      → SameTurned (turn nat_eq one (Someone name) fresh) (turn nat_eq other (Someone name) fresh)
  unfolding turn
  same_turned name fresh e = subst
      (λ (items : List Queued). SameTurned (queue_turn nat_eq one (Someone name) (queue_of queues (Someone name)) fresh)
      (queue_turn nat_eq other (Someone name) items fresh)) (sym e) (of_items name _ fresh)

-- a queue after a turn, by its reply
abbrev pub shortened_by : Option Reply → Bool → List Queued → List Queued
shortened_by None of_it items = items
shortened_by (Some reply) of_it items = cond of_it (rest_of items) items

pub queue_after : (sched : Sched ℕ) (who : Who) (fresh : Option (Fresh ℕ)) (other : Who)
    → queue_of (turn nat_eq sched who fresh).sched.queues other
    ≡ shortened_by (turn nat_eq sched who fresh).reply (same_who other who) (queue_of sched.queues other)
queue_after sched who fresh other = by _ _ (turn_is sched who fresh)
  where
    items : List Queued
    items = queue_of sched.queues other

    goes_on : (turned : Turned ℕ) → GoesOn sched turned
        → queue_of turned.sched.queues other ≡ shortened_by turned.reply (same_who other who) items
    goes_on turned goes = cc (goes.queues, goes.reply)

    by : (list : List Queued) (turned : Turned ℕ) → Turns sched who fresh list turned
        → queue_of turned.sched.queues other ≡ shortened_by turned.reply (same_who other who) items
    by list turned goes = grind (arith, common_steps, goes_on, first, shorter)

-- A turn of others leaves the queues of these tasks.
pub queue_stays : (kin : List TaskName) (sched : Sched ℕ) (given : Turn) → is_of_theirs kin given.0 ≡ false
    → (member : TaskName) → is_among same_name member kin ≡ true
    → queue_of (turn nat_eq sched given.0 given.1).sched.queues (Someone member)
    ≡ queue_of sched.queues (Someone member)
queue_stays kin sched given apart member theirs = queue_after sched given.0 given.1 (Someone member)
    ∙ ap (λ b. shortened_by (turn nat_eq sched given.0 given.1).reply b (queue_of sched.queues (Someone member)))
    (another (same_who (Someone member) given.0) refl) ∙ whole (turn nat_eq sched given.0 given.1).reply
  where
    another : (b : Bool) → same_who (Someone member) given.0 ≡ b → b ≡ false
    another false e = refl
    another true e = cc (same_whos (Someone member) given.0 e, apart)

    whole : (reply : Option Reply)
        → shortened_by reply false (queue_of sched.queues (Someone member)) ≡ queue_of sched.queues (Someone member)
    whole None = refl
    whole (Some reply) = refl
