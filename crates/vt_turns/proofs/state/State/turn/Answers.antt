use Rattle.std.proofs.Common.{ap, subst}
use Rattle.vt_spec.proofs.Common.{Item}
use Rattle.vt_queues.specs.QueuesValue.{item_meant, who_meant}
use Rattle.vt_turns.specs.Kept.{HasFirst, call_of_item}
use Rattle.vt_turns.proofs.KeptWords.{no_call_first}
use Rattle.vt_turns.proofs.StateTurns.{directive_turns, refused_turns}
use Rattle.vt_turns.proofs.state.State.turn.Goals as goal

pub returns-in-Refused-clause-turns : goal.returns-in-Refused-clause-turns
returns-in-Refused-clause-turns g c = λ calls first keep some. refused_turns g.C.TakesTurns.world c.args.self.now some
    (who_meant c.args.who.now) (item_meant c.args.item.now) _ (ap item_meant c.in-Refused.is)

pub returns-in-Refused-clause-words : goal.returns-in-Refused-clause-words
returns-in-Refused-clause-words g c = λ calls first keep. no_call_first (g.C.TakesTurns.world c.args.self.now.world)
    (who_meant c.args.who.now) (item_meant c.args.item.now) calls
    (ap (λ i. call_of_item (item_meant i)) c.in-Refused.is) first c.args.self.now.under_way.items keep

pub returns-in-Ask-clause-turns : goal.returns-in-Ask-clause-turns
returns-in-Ask-clause-turns g c = λ calls first keep some. directive_turns g.C.TakesTurns.world c.args.self.now some
    (who_meant c.args.who.now) (item_meant c.args.item.now) _ (ap item_meant c.in-Ask.is) c.direct.result c.direct.ensures

pub returns-in-Ask-clause-words : goal.returns-in-Ask-clause-words
returns-in-Ask-clause-words g c = λ calls first keep. no_call_first (g.C.TakesTurns.world c.args.self.now.world)
    (who_meant c.args.who.now) (item_meant c.args.item.now) calls
    (ap (λ i. call_of_item (item_meant i)) c.in-Ask.is) first c.args.self.now.under_way.items keep

pub returns-in-Run-clause-turns : goal.returns-in-Run-clause-turns
returns-in-Run-clause-turns g c = λ calls first keep some. rw (ap item_meant c.in-Run.is)
    (c.turn_of_line.ensures.turns calls (subst (λ (i : Item). HasFirst calls (who_meant c.args.who.now) i)
    (ap item_meant c.in-Run.is) first) keep some)

pub returns-in-Run-clause-words : goal.returns-in-Run-clause-words
returns-in-Run-clause-words g c = λ calls first keep.
    c.turn_of_line.ensures.words calls (subst (λ (i : Item). HasFirst calls (who_meant c.args.who.now) i)
    (ap item_meant c.in-Run.is) first) keep
