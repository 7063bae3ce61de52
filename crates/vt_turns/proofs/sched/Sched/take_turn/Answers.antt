use Rattle.std.proofs.Common.{None, Some, refl, sym}
use Rattle.vt_queues.specs.QueuesValue.{queued_meant, queues_meant, who_meant}
use Rattle.vt_turns.specs.Kept.{first_call}
use Rattle.vt_turns.proofs.KeptWords.{answered_keep, has_first, unanswered_keep}
use Rattle.vt_turns.proofs.SchedTurns.{idle_seen, turn_seen}
use Rattle.vt_turns.proofs.sched.Sched.take_turn.Goals as goal

pub returns-in_err-first : goal.returns-in_err-first
returns-in_err-first g c = λ some. rw c.from_residual.ensures (idle_seen g.C.TakesTurns.world (who_meant c.args.who.now)
    c.self.inside.queues c.self.inside.state c.args.self.now c.self.view_is some (sym c.in_err-first.ensures))

pub returns-in_err-answer : goal.returns-in_err-answer
returns-in_err-answer g c = λ some. rw c.from_residual-in_err-answer.ensures (turn_seen g.C.TakesTurns.world
    (who_meant c.args.who.now) c.self.inside.queues c.self.inside.state c.args.self.now c.self.view_is some
    (queued_meant c.in_ok-first.first.now) (sym c.in_ok-first.ensures) None c.turn.new.self c.self.inside.queues
    (c.in_err-answer.ensures.turns (first_call (queues_meant c.self.inside.queues))
    (has_first (queues_meant c.self.inside.queues) (who_meant c.args.who.now) (queued_meant c.in_ok-first.first.now)
    (sym c.in_ok-first.ensures)) c.self.invariant) refl)

pub returns : goal.returns
returns g c = λ some. turn_seen g.C.TakesTurns.world (who_meant c.args.who.now) c.self.inside.queues c.self.inside.state
    c.args.self.now c.self.view_is some (queued_meant c.in_ok-first.first.now) (sym c.in_ok-first.ensures)
    (Some c.in_ok-answer.answer) c.turn.new.self c.shorten.new.self
    (c.in_ok-answer.ensures.turns (first_call (queues_meant c.self.inside.queues))
    (has_first (queues_meant c.self.inside.queues) (who_meant c.args.who.now) (queued_meant c.in_ok-first.first.now)
    (sym c.in_ok-first.ensures)) c.self.invariant) c.shorten.ensures

pub invariant_of-self : goal.invariant_of-self
invariant_of-self g c = unanswered_keep (g.C.TakesTurns.world c.turn.new.self.world) (who_meant c.args.who.now)
    (first_call (queues_meant c.self.inside.queues)) c.turn.new.self.under_way.items
    (c.in_err-answer.ensures.words (first_call (queues_meant c.self.inside.queues))
    (has_first (queues_meant c.self.inside.queues) (who_meant c.args.who.now) (queued_meant c.in_ok-first.first.now)
    (sym c.in_ok-first.ensures)) c.self.invariant)

pub invariant_of-self-2 : goal.invariant_of-self-2
invariant_of-self-2 g c = answered_keep (g.C.TakesTurns.world c.turn.new.self.world) (who_meant c.args.who.now)
    (queues_meant c.self.inside.queues) (queues_meant c.shorten.new.self) c.shorten.ensures
    c.turn.new.self.under_way.items (c.in_ok-answer.ensures.words (first_call (queues_meant c.self.inside.queues))
    (has_first (queues_meant c.self.inside.queues) (who_meant c.args.who.now) (queued_meant c.in_ok-first.first.now)
    (sym c.in_ok-first.ensures)) c.self.invariant)
