use Rattle.std.proofs.Common.{nat_eq, ap, sym, ◌∙◌}
use Rattle.vt_spec.proofs.Common.{pointwise}
use Rattle.vt_tasks.proofs.TasksLemmas.{called_by_key}
use Rattle.vt_tasks.proofs.tasks.found_called.Goals as goal

pub returns-in-Some : goal.returns-in-Some
returns-in-Some c =
    called_by_key c.args.numbers.now c.in-Some.own.now c.in-Some.found.now c.args.by_name.now.entries
    c.in-Some.ensures.value
    (ap (pointwise nat_eq c.args.numbers.now) (sym c.as_slice.ensures.value) ∙ sym c.eq.ensures ∙ c.if-eq.true)
