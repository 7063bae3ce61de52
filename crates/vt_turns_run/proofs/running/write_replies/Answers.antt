use Rattle.std.proofs.Common.{◌∙◌, ap, arith, flat_map, map, rules, subst, take_all}
use Rattle.vt_io.specs.Sink.{Wrote, WroteFront}
use Rattle.vt_io.proofs.Printing.{WroteFront-item}
use Rattle.vt_laws_turns.specs.Commits.{text_of_replies}
use Rattle.vt_turns.specs.SchedValue.{reply_meant}
use Rattle.vt_turns_run.proofs.PlayedLines.{text_of, texts_of}
use Rattle.vt_turns_run.proofs.running.write_replies.Goals as goal

pub returns-in_err-write_reply-clause-printed : goal.returns-in_err-write_reply-clause-printed
returns-in_err-write_reply-clause-printed g c =
    let items = c.deref-reply-items.result.now in
    let front : WroteFront g.W.Sink c.args.sink.now c.write_reply.new.sink (flat_map text_of items) =
    WroteFront-item g.W.Sink text_of items c.loop-reply.reply-index c.reply-item.result c.loop-reply.invariant
    c.loop-reply-test.true c.in_err-write_reply.ensures.printed (ap text_of c.reply-item.is) in
    let whole : WroteFront g.W.Sink c.args.sink.now c.write_reply.new.sink
    (text_of_replies (map reply_meant c.args.played.now.replies.items)) =
    subst (λ text. WroteFront g.W.Sink c.args.sink.now c.write_reply.new.sink text)
    (ap (flat_map text_of) c.deref-reply-items.ensures.value ∙ texts_of c.args.played.now.replies.items) front in
    search rules

pub returns-clause-printed : goal.returns-clause-printed
returns-clause-printed g c =
    let items = c.deref-reply-items.result.now in
    subst (λ text. Wrote g.W.Sink c.args.sink.now c.loop-reply.sink text)
    (ap (flat_map text_of) (take_all c.loop-reply.reply-index items (omega (arith, c.loop-reply-test.false))
    ∙ c.deref-reply-items.ensures.value) ∙ texts_of c.args.played.now.replies.items) c.loop-reply.invariant
