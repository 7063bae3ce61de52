use Rattle.std.proofs.Common.{ap, sym, ◌∙◌, ◌++◌, ◌∷◌, []}
use Rattle.vt_queues.specs.declared.queues.Queue.{Queue}
use Rattle.vt_queues.specs.QueuesValue.{queue_meant, queued_meant, who_meant}
use Rattle.vt_queues.proofs.Meant.{of_failure, pushed, queue_with}
use Rattle.vt_queues.proofs.Places.{IsFirst, at_place, found, is_its, none_found, put_last, put_new, put_nothing}
use Rattle.vt_queues.proofs.queues.Queues.put.Goals as goal
use Rattle.std.proofs.Common.{map}

pub returns-in_err-push_back-in-Some-clause-memory : goal.returns-in_err-push_back-in-Some-clause-memory
returns-in_err-push_back-in-Some-clause-memory c =
    let who = who_meant c.args.who in
    let queues = c.args.self.now.queues.items in
    let place = c.in-Some.place in
    let first : IsFirst (is_its queue_meant who) queues place =
    found (is_its queue_meant who) queues place (sym c.place.ensures ∙ c.in-Some.is) in
    let one = at_place queue_meant who queues place c.index_mut.result.now first c.index_mut.ensures.value in
    let now : Queue = record { who = c.index_mut.result.now.who; items = c.push_back.new.self } in
    of_failure c.from_residual.result (put_nothing queue_meant who queues place now first
    (ap (λ items. queue_with (who_meant c.index_mut.result.now.who) (map queued_meant items))
    c.in_err-push_back-in-Some.ensures.items ∙ ap queue_meant one))

pub returns-in_ok-push_back-in-Some-clause-ok : goal.returns-in_ok-push_back-in-Some-clause-ok
returns-in_ok-push_back-in-Some-clause-ok c =
    let who = who_meant c.args.who in
    let queues = c.args.self.now.queues.items in
    let place = c.in-Some.place in
    let first : IsFirst (is_its queue_meant who) queues place =
    found (is_its queue_meant who) queues place (sym c.place.ensures ∙ c.in-Some.is) in
    let one = at_place queue_meant who queues place c.index_mut.result.now first c.index_mut.ensures.value in
    let now : Queue = record { who = c.index_mut.result.now.who; items = c.push_back.new.self } in
    let queued = queued_meant c.args.queued in
    put_last queue_meant who queues place now queued first
    (pushed queued_meant (who_meant c.index_mut.result.now.who) c.index_mut.result.now.items.items
    c.push_back.new.self.items c.args.queued c.in_ok-push_back-in-Some.ensures.items
    ∙ ap (λ (q : Queue). queue_with (who_meant q.who) (map queued_meant q.items.items ++ queued ∷ [])) one)

pub returns-in_ok-push-in-None-clause-ok : goal.returns-in_ok-push-in-None-clause-ok
returns-in_ok-push-in-None-clause-ok c =
    let who = who_meant c.args.who in
    let queues = c.args.self.now.queues.items in
    let queued = queued_meant c.args.queued in
    let now : Queue = record { who = c.args.who; items = c.push_back-in-None.new.self } in
    ap (map queue_meant) c.in_ok-push-in-None.ensures.items
    ∙ put_new queue_meant who queues now queued
    (none_found (is_its queue_meant who) queues (sym c.place.ensures ∙ c.in-None.is))
    (ap (λ items. queue_with who (map queued_meant items))
    (c.in_ok-push_back-in-None.ensures.items ∙ ap (λ items. items ++ c.args.queued ∷ []) c.new-items.ensures.items))
