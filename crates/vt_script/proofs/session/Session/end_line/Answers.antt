use Rattle.std.proofs.Common.{ap, refl}
use Rattle.vt_spec.proofs.Common.{err_from_is_err_and}
use Rattle.vt_line.specs.Versions.{version_of}
use Rattle.vt_script.proofs.SessionLemmas.{fed_line, broke_line}
use Rattle.vt_script.proofs.session.Session.end_line.Goals as goal

pub returns-in_err-answer_kept-clause-feeds : goal.returns-in_err-answer_kept-clause-feeds
returns-in_err-answer_kept-clause-feeds g c =
    let p = err_from_is_err_and c.from_residual.result c.from_residual.ensures.1 in
    rw p.1 (λ line reading. broke_line g.W.Sink _ line _ _ reading (c.in_err-answer_kept.ensures.replies line reading.held reading.numbers))

pub returns-clause-feeds : goal.returns-clause-feeds
returns-clause-feeds g c = λ line reading.
    fed_line g.W.Sink _ _ line _ _ reading (c.in_ok-answer_kept.ensures.replies line reading.held reading.numbers)
    (ap version_of c.in_ok-answer_kept.ensures.version) refl c.clear.ensures.holds
