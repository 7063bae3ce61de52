use Rattle.std.proofs.Common.{ap, subst, sym, ◌∙◌, IsPermutation, map}
use Rattle.vt_tasks.specs.TaskValue.{task_of}
use Rattle.vt_tasks.specs.TasksValue.{born_in_order, in_order, tasks_of}
use Rattle.vt_tasks.proofs.KeptTasks.{born-kept, kept-permuted}
use Rattle.vt_tasks.proofs.tasks.Tasks.kept.Goals as goal

pub returns-clause-order : goal.returns-clause-order
returns-clause-order c = ap born_in_order (c.as_slice.ensures ∙ c.values.ensures.rest)
    ∙ born-kept c.self.inside.by_name.entries ∙ ap (λ value. value.tasks) c.self.view_is

pub returns-clause-all : goal.returns-clause-all
returns-clause-all c =
    let values = c.as_slice.ensures ∙ c.values.ensures.rest in
    subst (IsPermutation (map task_of c.as_slice.result.now)) (ap (λ value. value.tasks) c.self.view_is)
    (subst (λ kept. IsPermutation (map task_of kept) (tasks_of (in_order c.self.inside.by_name.entries))) (sym values)
    (kept-permuted c.self.inside.by_name.entries c.self.invariant.apart))
