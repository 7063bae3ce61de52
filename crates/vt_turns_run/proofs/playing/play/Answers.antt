use Rattle.std.proofs.Common.{arith}
use Rattle.vt_turns_run.proofs.PlayedLines.{plays_line, ready_after}
use Rattle.vt_turns_run.proofs.playing.play.Goals as goal

pub loop-turn-preserved : goal.loop-turn-preserved
loop-turn-preserved g c =
    let inv = c.loop-turn.invariant in
    let before = c.loop-turn.played.replies.items in
    let after = c.take_line.new.self.replies.items in
    record {
      count = omega (arith, c.take_line.ensures.len, inv.count);
      room = omega (arith, c.take_line.ensures.capacity, inv.room);
      plays = λ ready. plays_line g.C.TakesTurns.world c.args.turns.now c.loop-turn.turn-index c.turn-item.result
          c.loop-turn-test.true c.turn-item.is before after c.args.sched.now c.loop-turn.sched c.take_line.new.sched
          (inv.plays ready) (c.take_line.ensures.turns (inv.ready ready));
      ready = λ ready. ready_after g.C.TakesTurns.world c.turn-item.result before after c.loop-turn.sched
          c.take_line.new.sched (c.take_line.ensures.turns (inv.ready ready)) (inv.ready ready);
    }
