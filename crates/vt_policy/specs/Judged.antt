-- Calls that attach no mount: they are judged by what is looked at alone.
use Rattle.std.specs.Prelude.{false, nat_eq, ℕ}
use Rattle.vt_spec.specs.Language.Calls.{Call}
use Rattle.vt_spec.specs.Machine.Judging.{Judgement, Judging, judging, run}
use Rattle.vt_spec.specs.Machine.Looks.{Looks}
use Rattle.vt_spec.specs.Machine.World.{Task}

-- what is asked, where nothing is attached that could leave a namespace with too many mounts
abbrev pub run_by_looks : Looks ℕ → Task ℕ → Judging ℕ → Judgement ℕ
run_by_looks looks task asked = run nat_eq looks task (λ permit. false) asked

-- a call that attaches no mount
abbrev pub judge_by_looks : Looks ℕ → Task ℕ → Call → Judgement ℕ
judge_by_looks looks task call = run_by_looks looks task (judging nat_eq looks task call)
