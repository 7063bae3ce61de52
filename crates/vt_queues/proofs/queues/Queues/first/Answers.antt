use Rattle.std.proofs.Common.{ap, sym, ◌∙◌, map}
use Rattle.vt_spec.specs.Lists.{first_of_list}
use Rattle.vt_queues.specs.declared.queues.Queue.{Queue}
use Rattle.vt_queues.specs.QueuesValue.{queue_meant, queued_meant, who_meant}
use Rattle.vt_queues.proofs.Meant.{first_meant}
use Rattle.vt_queues.proofs.Places.{IsFirst, at_place, found, is_its, no_queue, none_found, queue_found}
use Rattle.vt_queues.proofs.queues.Queues.first.Goals as goal

pub returns-in_err-place : goal.returns-in_err-place
returns-in_err-place c =
    let who = who_meant c.args.who.now in
    let queues = c.args.self.now.queues.items in
    rw c.from_residual.ensures (sym (ap first_of_list (no_queue queue_meant who queues
    (none_found (is_its queue_meant who) queues (sym c.place.ensures ∙ c.in_err-place.was)))))

pub returns : goal.returns
returns c =
    let who = who_meant c.args.who.now in
    let queues = c.args.self.now.queues.items in
    let place = c.in_ok-place.place in
    let first : IsFirst (is_its queue_meant who) queues place =
    found (is_its queue_meant who) queues place (sym c.place.ensures ∙ c.in_ok-place.was) in
    let one = at_place queue_meant who queues place c.index.result.now first c.index.ensures in
    first_meant queued_meant c.index.result.now.items.items c.front.result c.front.ensures.item
    ∙ ap (λ (queue : Queue). first_of_list (map queued_meant queue.items.items)) one
    ∙ sym (ap first_of_list (queue_found queue_meant who queues place first))
