use Rattle.std.proofs.Common.{ap, refl}
use Rattle.vt_spec.proofs.Common.{err_from_is_err_and}
use Rattle.vt_line.specs.Versions.{version_of}
use Rattle.vt_script.proofs.SessionLemmas.{broke_whole, fed_whole}
use Rattle.vt_script.proofs.session.Session.answer_whole.Goals as goal

pub returns-in_err-answer-clause-feeds : goal.returns-in_err-answer-clause-feeds
returns-in_err-answer-clause-feeds g c =
    let p = err_from_is_err_and c.from_residual.result c.from_residual.ensures.1 in
    rw p.1 (λ reading. broke_whole g.W.Sink _ c.args.line.now _ _ reading c.requires.one
    (c.in_err-answer.ensures.replies reading.numbers))

pub returns-clause-feeds : goal.returns-clause-feeds
returns-clause-feeds g c = λ reading.
    fed_whole g.W.Sink _ _ c.args.line.now _ _ reading c.requires.one (c.in_ok-answer.ensures.replies reading.numbers)
    (ap version_of c.in_ok-answer.ensures.version) refl reading.held
