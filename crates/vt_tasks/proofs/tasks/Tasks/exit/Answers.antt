use Rattle.std.proofs.Common.{ap, ◌∙◌}
use Rattle.vt_tasks.specs.TasksValue.{called, without_called}
use Rattle.vt_tasks.proofs.KeptTasks.{called-got, kept-left, tasks-left}
use Rattle.vt_tasks.proofs.TasksLemmas.{told}
use Rattle.vt_tasks.proofs.tasks.Tasks.exit.Goals as goal

pub invariant_of-self : goal.invariant_of-self
invariant_of-self c =
    kept-left c.numbers.result.now c.self.inside.by_name c.swap_remove.new.self c.self.invariant c.swap_remove.ensures.entries
    c.swap_remove.ensures.updates.1 c.swap_remove.ensures.unique

pub returns-clause-value : goal.returns-clause-value
returns-clause-value c =
    let map = c.self.inside.by_name in
    called-got c.numbers.result.now map map c.self.invariant _ c.swap_remove.ensures.value
    ∙ (λ i. called (c.numbers.ensures.value i) (c.self.view_is i).tasks)

pub returns-clause-rest : goal.returns-clause-rest
returns-clause-rest c =
    told (tasks-left c.numbers.result.now c.self.inside.by_name c.swap_remove.new.self c.self.invariant c.swap_remove.ensures.entries
    c.swap_remove.ensures.updates.1 c.swap_remove.ensures.unique
    ∙ (λ i. without_called (c.numbers.ensures.value i) (c.self.view_is i).tasks)) (ap (λ value. value.births) c.self.view_is)
