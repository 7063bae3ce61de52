use Rattle.std.proofs.Common.{◌≤◌, length, map, take, vec_capacity, vec_len}
use Rattle.vt_queues.specs.QueuesValue.{who_meant}
use Rattle.vt_turns.specs.Ends.{IsReady}
use Rattle.vt_turns.specs.SchedValue.{reply_meant}
use Rattle.vt_turns.specs.Turned.{IsPlayedBy, PlaysAs}
use Rattle.vt_turns.proofs.sched.Sched.play.Given as goal

abbrev pub invariant-loop-who : goal.invariant-loop-who
invariant-loop-who g l = record {
  count : vec_len l.replies ≤ l.who-index;
  room : length l.schedule ≤ vec_capacity l.replies;
  plays : IsReady (g.C.TakesTurns.world l.fn.self.state.world)
      → PlaysAs g.C.TakesTurns.world l.fn.self (map who_meant (take l.who-index l.schedule))
      (map reply_meant l.replies.items) l.self;
  played : IsReady (g.C.TakesTurns.world l.fn.self.state.world)
      → IsPlayedBy g.C.TakesTurns.world l.fn.self (map who_meant (take l.who-index l.schedule))
      (map reply_meant l.replies.items) l.self;
  ready : IsReady (g.C.TakesTurns.world l.fn.self.state.world)
      → IsReady (g.C.TakesTurns.world l.self.state.world);
}
