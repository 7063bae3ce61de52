use Rattle.std.proofs.Common.{◌≡◌, drop}
use Rattle.vt_spec.specs.Errors.{unless}
use Rattle.vt_later.specs.Passing.{lets_pass, without}
use Rattle.vt_later.proofs.passing.unless.Given as goal

-- what is left of the rows refuses as all do
abbrev pub invariant-loop-fails : goal.invariant-loop-fails
invariant-loop-fails l = unless (without (lets_pass l.passed) (drop l.fails-index l.rows)) l.behind
    ≡ unless (without (lets_pass l.passed) l.rows) l.behind
