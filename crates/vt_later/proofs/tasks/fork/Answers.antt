use Rattle.std.proofs.Common.{ap, ◌∷◌, [], ◌∙◌, Bool}
use Rattle.vt_spec.specs.declared.errors.Rule.TheVariants.{S6}
use Rattle.vt_tasks.specs.TaskValue.{task_of}
use Rattle.vt_later.specs.Past.{table_past}
use Rattle.vt_later.proofs.Forked.{forked_alike}
use Rattle.vt_later.proofs.tasks.fork.Goals as goal

pub returns-in_default : goal.returns-in_default
returns-in_default c looks =
    let passed = c.args.passed.now in
    rw c.in_default.is (c.first.ensures
    ∙ ap (λ (barren : Bool). table_past passed ((barren, S6) ∷ [])) c.is_barren.ensures
    ∙ forked_alike looks (task_of c.args.who.now) passed)
