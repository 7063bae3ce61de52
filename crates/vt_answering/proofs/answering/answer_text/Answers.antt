use Rattle.std.proofs.Common.{ap, subst, ◌∙◌}
use Rattle.vt_line.specs.Versions.{version_of}
use Rattle.vt_run.specs.Answered.{AnswersKnown}
use Rattle.vt_answering.proofs.answering.answer_text.Goals as goal

pub returns-clause-answers : goal.returns-clause-answers
returns-clause-answers g c =
    let remaining = g.D.Read.remaining in
    let contents = g.W.Write.contents in
    let answers = subst (λ version. AnswersKnown (version_of version) (remaining c.opened-script.result.reader)
    (contents c.new-counting.result.output) (contents c.in_ok-counted.counted.output)) c.opened-script.ensures.version
    c.in_ok-counted.ensures.answers in
    λ bytes held script short before.
    let told = answers bytes held (ap remaining c.opened-script.ensures.reader ∙ script) short
    (ap contents c.new-counting.ensures ∙ before) in
    (told.0, told.1, ap contents c.into_output.ensures ∙ told.2)
