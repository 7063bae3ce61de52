use Rattle.std.proofs.Common.{◌<◌, arith, length}
use Rattle.std.proofs.lemmas.List.{length-map}
use Rattle.vt_spec.specs.Machine.Turns.{Queue, shortened}
use Rattle.vt_queues.specs.QueuesValue.{queue_meant, queues_meant, who_meant}
use Rattle.vt_queues.proofs.Shortening.{next_meant}
use Rattle.vt_queues.proofs.queues.Queues.shorten.Goals as goal

pub loop-queue-preserved : goal.loop-queue-preserved
loop-queue-preserved c =
    let within : c.loop-queue.queue-index < length (queues_meant c.args.self.now) =
    omega (arith, length-map {B = Queue} c.args.self.now.queues.items queue_meant, c.deref_mut-queue-items.ensures.len) in
    next_meant queue_meant (shortened (who_meant c.args.who.now)) (queues_meant c.args.self.now)
    c.loop-queue.queue-items c.loop-queue.queue-index c.queue-item.result c.shorten.new.self within
    c.loop-queue.invariant c.shorten.ensures
