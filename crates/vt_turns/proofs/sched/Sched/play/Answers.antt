use Rattle.std.proofs.Common.{[], ap, refl, sym, arith, List, map, subst, take_all}
use Rattle.vt_spec.proofs.Common.{Reply}
use Rattle.vt_queues.specs.QueuesValue.{who_meant}
use Rattle.vt_queues.specs.declared.item.Who.{Who}
use Rattle.vt_turns.specs.SchedValue.{reply_meant}
use Rattle.vt_turns.specs.Turned.{IsPlayedBy, PlaysAs}
use Rattle.vt_turns.proofs.Restarts.{restarts_few}
use Rattle.vt_turns.proofs.SchedTurns.{nothing_played, played_next, plays_next, run_whole_so}
use Rattle.vt_turns.proofs.sched.Sched.play.Goals as goal

pub loop-who-preserved : goal.loop-who-preserved
loop-who-preserved g c = record {
  count = omega (arith, c.take_and_keep.ensures.len, c.loop-who.invariant.count);
  room = omega (arith, c.take_and_keep.ensures.capacity, c.loop-who.invariant.room);
  plays = λ ready. plays_next g.C.TakesTurns.world c.args.schedule.now c.loop-who.who-index c.who-item.result
      c.loop-who-test.true c.who-item.is c.loop-who.replies.items c.take_and_keep.new.replies.items c.args.self.now
      c.loop-who.self c.take_and_keep.new.self (c.loop-who.invariant.plays ready)
      (c.take_and_keep.ensures.turns (c.loop-who.invariant.ready ready));
  played = λ ready. played_next g.C.TakesTurns.world c.args.schedule.now c.loop-who.who-index c.who-item.result
      c.loop-who-test.true c.who-item.is c.loop-who.replies.items c.take_and_keep.new.replies.items c.args.self.now
      c.loop-who.self c.take_and_keep.new.self (c.loop-who.invariant.played ready) (c.loop-who.invariant.ready ready)
      (c.take_and_keep.ensures.turns (c.loop-who.invariant.ready ready));
  ready = λ ready. (c.take_and_keep.ensures.turns (c.loop-who.invariant.ready ready)).1.ready;
}

pub returns-clause-plays : goal.returns-clause-plays
returns-clause-plays g c = λ ready. subst (λ (s : List Who). PlaysAs g.C.TakesTurns.world c.args.self.now (map who_meant s)
    (map reply_meant c.loop-who.replies.items) c.loop-who.self)
    (take_all c.loop-who.who-index c.args.schedule.now (omega arith)) (c.loop-who.invariant.plays ready)

pub returns-clause-whole : goal.returns-clause-whole
returns-clause-whole g c = λ ready. run_whole_so g.C.TakesTurns.world (map who_meant c.args.schedule.now)
    (map reply_meant c.loop-who.replies.items) c.args.self.now c.loop-who.self
    (subst (λ (s : List Who). IsPlayedBy g.C.TakesTurns.world c.args.self.now (map who_meant s)
    (map reply_meant c.loop-who.replies.items) c.loop-who.self)
    (take_all c.loop-who.who-index c.args.schedule.now (omega arith)) (c.loop-who.invariant.played ready))

pub loop-who-init : goal.loop-who-init
loop-who-init g c =
    let none = ap (map reply_meant) c.in_ok-replies.ensures.items in
    record {
      count = omega (arith, c.in_ok-replies.ensures.len);
      room = omega (arith, c.in_ok-replies.ensures.exact);
      plays = λ ready. (none, refl);
      played = λ ready. subst (λ (r : List Reply). IsPlayedBy g.C.TakesTurns.world c.args.self.now [] r c.args.self.now)
          (sym none) (nothing_played g.C.TakesTurns.world c.args.self.now);
      ready = λ ready. ready;
    }

pub returns-clause-restarts : goal.returns-clause-restarts
returns-clause-restarts g c = λ ready conditions. restarts_few g.C.TakesTurns.world (map who_meant c.args.schedule.now)
    (map reply_meant c.loop-who.replies.items) c.args.self.now c.loop-who.self conditions
    (subst (λ (s : List Who). IsPlayedBy g.C.TakesTurns.world c.args.self.now (map who_meant s)
    (map reply_meant c.loop-who.replies.items) c.loop-who.self)
    (take_all c.loop-who.who-index c.args.schedule.now (omega arith)) (c.loop-who.invariant.played ready))
