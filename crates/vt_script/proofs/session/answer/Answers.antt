use Rattle.std.proofs.Common.{ap, subst, Ok, Err}
use Rattle.vt_line.specs.Lines.{IsReadingOf}
use Rattle.vt_line.specs.Versions.{version_of}
use Rattle.vt_script.proofs.ReplyLemmas.{replied_silent, replies_call, replies_direct, replies_unread}
use Rattle.vt_script.proofs.session.answer.Goals as goal

pub returns-in-Ok-Silent-clause-replies : goal.returns-in-Ok-Silent-clause-replies
returns-in-Ok-Silent-clause-replies g c = λ numbers.
    replied_silent (version_of c.args.parser.now.version) g.W.Sink _ c.args.line.now c.args.number _ numbers
    (c.in-Ok-Silent.ensures.silent.0 (ap Ok c.in-Ok-Silent.field-0-is))

pub returns-in-Ok-Call-clause-replies : goal.returns-in-Ok-Call-clause-replies
returns-in-Ok-Call-clause-replies g c = λ numbers.
    let asks = subst (IsReadingOf (version_of c.args.parser.now.version) c.args.line.now) c.in-Ok-Call.field-0-is
    c.in-Ok-Call.ensures.reading in
    replies_call (version_of c.args.parser.now.version) g.W.Sink g.C.Calls.world c.write_reply.result c.args.world.now c.call-answer.new.self c.args.line.now c.args.number _ _ c.call-answer.result _ _
    asks.0 asks.1 c.call-answer.ensures.ends c.write_reply.ensures.printed

pub returns-in-Ok-Ask-clause-replies : goal.returns-in-Ok-Ask-clause-replies
returns-in-Ok-Ask-clause-replies g c = λ numbers.
    let asks = subst (IsReadingOf (version_of c.args.parser.now.version) c.args.line.now) c.in-Ok-Ask.field-0-is
    c.in-Ok-Ask.ensures.reading in
    replies_direct (version_of c.args.parser.now.version) g.W.Sink c.write_reply-in-Ok-Ask.result (g.C.Calls.world c.args.world.now) c.args.line.now c.args.number _
    c.direct-answer.result _ _ numbers asks.0 asks.1 c.direct-answer.ensures
    c.write_reply-in-Ok-Ask.ensures.printed

pub returns-in-Err-clause-replies : goal.returns-in-Err-clause-replies
returns-in-Err-clause-replies g c = λ numbers.
    replies_unread (version_of c.args.parser.now.version) g.W.Sink c.write_reply-in-Err.result (g.C.Calls.world c.args.world.now) c.args.line.now c.args.number c.in-Err.deny _ _ numbers c.in-Err.ensures.refused
    (λ is. c.in-Err.ensures.no_request.0 (ap Err is)) (λ is. c.in-Err.ensures.no_memory (ap Err is))
    c.write_reply-in-Err.ensures.printed
