use Rattle.std.proofs.Common.{sym, ◌∙◌}
use Rattle.vt_tasks.specs.TaskValue.{task_of}
use Rattle.vt_steps.proofs.ForkRules.{forked_alike}
use Rattle.vt_steps.proofs.entry.may_begin_fork.Goals as goal

pub returns-in-None-2 : goal.returns-in-None-2
returns-in-None-2 c looks =
    rw c.in-None-2.is (sym (forked_alike looks (task_of c.args.who.now)
    (sym c.is_barren.ensures ∙ c.if-is_barren.false)))
