use Rattle.std.proofs.Common.{◌≡◌, ◌++◌, drop, map, take}
use Rattle.vt_spec.specs.Machine.Turns.{shortened}
use Rattle.vt_queues.specs.QueuesValue.{queue_meant, queues_meant, who_meant}
use Rattle.vt_queues.proofs.queues.Queues.shorten.Given as goal

abbrev pub invariant-loop-queue : goal.invariant-loop-queue
invariant-loop-queue l = map queue_meant l.queue-items
    ≡ map (shortened (who_meant l.who)) (take l.queue-index (queues_meant l.fn.self))
    ++ drop l.queue-index (queues_meant l.fn.self)
