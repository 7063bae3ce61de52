use Rattle.std.proofs.Common.{Err, IsErrOf, ap, subst, ◌≡◌}
use Rattle.vt_line.specs.Versions.{version_of}
use Rattle.vt_line.specs.declared.fault.RunFault.{RunFault}
use Rattle.vt_script.specs.Session.{BeginsToAnswerIn, EndsAtOnceIn}
use Rattle.vt_script.proofs.script.run_as.Goals as goal

-- a fault is the same, whatever there would have been in its place
same_fault : {T : Type 0} (one other : RunFault) → IsErrOf {T = T} {E = RunFault} (Err one) other → one ≡ other
same_fault one other same = cc

pub returns-in-Err-clause-after_write : goal.returns-in-Err-clause-after_write
returns-in-Err-clause-after_write g c = λ is tells holds.
    subst (λ version. BeginsToAnswerIn g.W.Sink (version_of version) (g.R.Source.rest c.args.source.now) c.args.sink.now
    c.answer_all-outcome.new.sink) c.in_ok-session.ensures.version
    (c.in-Err.ensures.after_write (ap Err (same_fault _ _ is)) tells holds)

pub returns-in-Err-clause-at_once : goal.returns-in-Err-clause-at_once
returns-in-Err-clause-at_once g c = λ is tells holds.
    subst (λ version. EndsAtOnceIn g.W.Sink (version_of version) (g.R.Source.rest c.args.source.now)
    (g.R.Source.given c.answer_all-outcome.new.source) (g.R.Source.rest c.answer_all-outcome.new.source) c.args.sink.now
    c.answer_all-outcome.new.sink) c.in_ok-session.ensures.version
    (c.in-Err.ensures.at_once (ap Err (same_fault _ _ is)) tells holds)
