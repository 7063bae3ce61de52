use Rattle.std.proofs.Common.{◌∙◌, ◌≤◌, length, subst}
use Rattle.vt_tasks.specs.TasksValue.{called}
use Rattle.vt_tasks.proofs.KeptTasks.{called-got, kept-few}
use Rattle.vt_tasks.proofs.tasks.Tasks.get.Goals as goal

pub returns-clause-found : goal.returns-clause-found
returns-clause-found c =
    let map = c.self.inside.by_name in
    called-got c.numbers.result.now map map c.self.invariant _ c.found_called.ensures
    ∙ (λ i. called (c.numbers.ensures.value i) (c.self.view_is i).tasks)

pub returns-clause-born : goal.returns-clause-born
returns-clause-born c = subst (λ value. length value.tasks ≤ value.births) c.self.view_is
    (kept-few c.self.inside.births c.self.inside.by_name.entries c.self.invariant)
