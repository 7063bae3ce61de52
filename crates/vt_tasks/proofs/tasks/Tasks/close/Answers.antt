use Rattle.std.proofs.Common.{nat_eq, not, arith, ap, sym, refl, ◌∙◌, option_map, option_and_then}
use Rattle.vt_spec.proofs.Common.{are_ascending_from, descriptor_numbered, list_all, option_copied_mut, without_descriptor}
use Rattle.vt_tasks.specs.Open.{numbered}
use Rattle.vt_tasks.specs.TaskValue.{task_of}
use Rattle.vt_tasks.specs.TasksValue.{called, changed_called, has_files_in_order, in_order, tasks_of}
use Rattle.vt_tasks.proofs.KeptTasks.{called-absent, called-found, changed-absent, written-change, written-fit}
use Rattle.vt_tasks.proofs.TasksLemmas.{told}
use Rattle.vt_tasks.proofs.tasks.Tasks.close.Goals as goal
use Rattle.vt_spec.proofs.Descriptors.{ascending-filter}

pub returns-in_err-task-clause-value : goal.returns-in_err-task-clause-value
returns-in_err-task-clause-value c =
    let map = c.self.inside.by_name in
    let absent = called-absent c.numbers.result.now map map c.self.invariant
    (sym c.get_mut.ensures.value ∙ ap option_copied_mut c.in_err-task.was) in
    ap (option_map (numbered c.args.number)) c.from_residual.ensures
    ∙ sym (ap (option_and_then (λ task. descriptor_numbered task c.args.number))
    ((λ i. called (sym c.numbers.ensures.value i) (sym c.self.view_is i).tasks) ∙ absent))

pub returns-in_err-task-clause-rest : goal.returns-in_err-task-clause-rest
returns-in_err-task-clause-rest c =
    let map = c.self.inside.by_name in
    told (ap (λ map. tasks_of (in_order map.entries)) c.get_mut.follows.holds-at-none
    ∙ sym (changed-absent c.numbers.result.now map map c.self.invariant (λ task. without_descriptor task c.args.number)
    (sym c.get_mut.ensures.value ∙ ap option_copied_mut c.in_err-task.was))
    ∙ (λ i. changed_called (c.numbers.ensures.value i) (λ task. without_descriptor task c.args.number)
    (c.self.view_is i).tasks)) (ap (λ value. value.births) c.self.view_is)

pub invariant_of-self-2 : goal.invariant_of-self-2
invariant_of-self-2 c =
    written-fit c.numbers.result.now c.self.inside.by_name _ c.self.invariant c.in_ok-task.task.now _
    (sym c.get_mut.ensures.value ∙ ap option_copied_mut c.in_ok-task.was) refl refl c.get_mut.ensures.unique
    (c.get_mut.follows.holds _) (omega arith) (λ e. ap (are_ascending_from 0) c.remove.ensures.rest
    ∙ ascending-filter (λ d. not (nat_eq c.args.number d.number)) 0 c.in_ok-task.task.now.descriptors e)

pub returns-clause-value : goal.returns-clause-value
returns-clause-value c =
    let map = c.self.inside.by_name in
    let found = called-found c.numbers.result.now map map c.self.invariant c.in_ok-task.task.now
    (sym c.get_mut.ensures.value ∙ ap option_copied_mut c.in_ok-task.was) in
    c.remove.ensures.value ∙ sym (ap (option_and_then (λ task. descriptor_numbered task c.args.number))
    ((λ i. called (sym c.numbers.ensures.value i) (sym c.self.view_is i).tasks) ∙ found))

pub returns-clause-rest : goal.returns-clause-rest
returns-clause-rest c =
    told (written-change c.numbers.result.now c.self.inside.by_name _ c.self.invariant
    (λ task. without_descriptor task c.args.number) c.in_ok-task.task.now _
    (sym c.get_mut.ensures.value ∙ ap option_copied_mut c.in_ok-task.was) refl refl c.get_mut.ensures.unique
    (c.get_mut.follows.holds _) (λ i. record (task_of c.in_ok-task.task.now) { descriptors = c.remove.ensures.rest i })
    ∙ (λ i. changed_called (c.numbers.ensures.value i) (λ task. without_descriptor task c.args.number)
    (c.self.view_is i).tasks)) (ap (λ value. value.births) c.self.view_is)

pub returns-in_err-task-clause-order : goal.returns-in_err-task-clause-order
returns-in_err-task-clause-order c = ap (list_all has_files_in_order) (ap (λ value. value.tasks) (sym c.self.view_is)) ∙ c.self.invariant.fit.3

pub returns-clause-order : goal.returns-clause-order
returns-clause-order c = ap (list_all has_files_in_order) (ap (λ value. value.tasks) (sym c.self.view_is)) ∙ c.self.invariant.fit.3
