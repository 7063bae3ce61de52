use Rattle.std.proofs.Common.{ap, [], ℕ}
use Rattle.vt_spec.proofs.Common.{World}
use Rattle.vt_line.specs.Versions.{version_of}
use Rattle.vt_answers.proofs.SpareNumbers.{numbers_opened}
use Rattle.vt_script.specs.Progress.{Moment}
use Rattle.vt_script.proofs.session.Session.new.Goals as goal

pub returns-clause-opening : goal.returns-clause-opening
returns-clause-opening g c =
    let begun : World ℕ → Moment = λ world.
    record { version = version_of c.args.version; world = world; answered = 0; line = [] } in
    let opened = c.in-Ok-opening.ensures.opened in
    (opened.0, opened.1, ap begun opened.2)

pub returns-clause-reading : goal.returns-clause-reading
returns-clause-reading g c = record {
  held = c.in-Ok.ensures.holds;
  whole = tt;
  numbers = numbers_opened _ c.in-Ok-opening.ensures.opened;
}
