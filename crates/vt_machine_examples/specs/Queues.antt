-- The opening world with one queue.
use Rattle.std.specs.Prelude.{List, [], ℕ, ◌∷◌}
use Rattle.vt_spec.specs.Language.Script.Who.{Nobody}
use Rattle.vt_spec.specs.Machine.Run.{first_world}
use Rattle.vt_spec.specs.Machine.Turns.{Queued, Sched}

-- these items wait in the queue of nobody
abbrev pub waiting : List Queued → Sched ℕ
waiting items = record { world = first_world; queues = record { who = Nobody; items = items } ∷ []; under_way = [] }
