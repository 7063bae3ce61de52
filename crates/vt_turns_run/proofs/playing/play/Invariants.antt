use Rattle.std.proofs.Common.{◌≤◌, length, map, take, vec_capacity, vec_len}
use Rattle.vt_turns.specs.Ends.{IsReady}
use Rattle.vt_turns.specs.SchedValue.{reply_meant, sched_meant}
use Rattle.vt_turns.specs.Turned.{PlaysAs}
use Rattle.vt_turns_run.specs.Played.{turns_in}
use Rattle.vt_turns_run.proofs.playing.play.Given as goal

abbrev pub invariant-loop-turn : goal.invariant-loop-turn
invariant-loop-turn g l = record {
  count : vec_len l.played.replies ≤ l.turn-index;
  room : length l.turns ≤ vec_capacity l.played.replies;
  plays : IsReady (sched_meant g.C.TakesTurns.world l.initial.sched).world
      → PlaysAs g.C.TakesTurns.world l.initial.sched (turns_in (take l.turn-index l.turns))
      (map reply_meant l.played.replies.items) l.sched;
  ready : IsReady (sched_meant g.C.TakesTurns.world l.initial.sched).world
      → IsReady (sched_meant g.C.TakesTurns.world l.sched).world;
}
