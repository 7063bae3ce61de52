use Rattle.std.proofs.Common.{◌≡◌, sym, subst, ◌∙◌, Err}
use Rattle.vt_spec.proofs.Common.{reply_line}
use Rattle.vt_io.specs.Sink.{Prints}
use Rattle.vt_line.specs.Versions.{version_of}
use Rattle.vt_script.specs.Session.{Replies}
use Rattle.vt_script.proofs.ReplyLemmas.{kept_whole, replies_too_long}
use Rattle.vt_script.proofs.session.answer_kept.Goals as goal

pub returns-then-is_overlong-clause-replies : goal.returns-then-is_overlong-clause-replies
returns-then-is_overlong-clause-replies g c = λ text held numbers.
    replies_too_long (version_of c.args.parser.now.version) g.W.Sink c.write_reply.result
    (g.C.Calls.world c.args.world.now) text c.args.line.now c.args.number _ _ numbers held
    (sym c.is_overlong.ensures ∙ c.if-is_overlong.true) (subst (λ deny. Prints g.W.Sink
    (reply_line c.args.number (Err deny)) c.write_reply.result c.args.sink.now c.write_reply.new.sink)
    c.denial.ensures c.write_reply.ensures.printed)

pub returns-clause-replies : goal.returns-clause-replies
returns-clause-replies g c = λ text held numbers.
    let whole : c.bytes.result.now ≡ text = c.bytes.ensures
    ∙ kept_whole text c.args.line.now held (sym c.is_overlong.ensures ∙ c.if-is_overlong.false) in
    subst (λ l. Replies g.W.Sink (version_of c.args.parser.now.version) (g.C.Calls.world c.args.world.now) l c.args.number
    c.answer.result (g.C.Calls.world c.answer.new.world) c.args.sink.now c.answer.new.sink) whole
    (c.answer.ensures.replies numbers)
