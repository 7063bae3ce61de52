use Rattle.std.proofs.Common.{ap, arith, sym, refl, ◌∙◌, option_map}
use Rattle.vt_spec.proofs.Common.{OnOk_then, free_number, option_copied_mut}
use Rattle.vt_tasks.specs.TaskValue.{task_of}
use Rattle.vt_tasks.specs.TasksValue.{called, changed_called, tasks_of, with_open}
use Rattle.vt_tasks.proofs.KeptTasks.{called-absent, called-found, written-change, written-fit, written-same}
use Rattle.vt_tasks.proofs.TasksLemmas.{granted-so, granted-there, ok-equal, on-err, opened-in_order, opened-under, there-mut, told}
use Rattle.vt_tasks.proofs.tasks.Tasks.open.Goals as goal

pub unwrap-task-requires : goal.unwrap-task-requires
unwrap-task-requires c =
    let map = c.self.inside.by_name in
    there-mut c.get_mut.result (λ none. granted-there _ _ c.requires
    ((λ i. called (sym c.numbers.ensures.value i) (sym c.self.view_is i).tasks)
    ∙ called-absent c.numbers.result.now map map c.self.invariant (sym c.get_mut.ensures.value ∙ none)))

pub insert-requires : goal.insert-requires
insert-requires c =
    let map = c.self.inside.by_name in
    record {
      few = granted-so _ _ (task_of c.unwrap-task.result.now) c.requires
          ((λ i. called (sym c.numbers.ensures.value i) (sym c.self.view_is i).tasks)
          ∙ called-found c.numbers.result.now map map c.self.invariant c.unwrap-task.result.now
          (sym c.get_mut.ensures.value ∙ ap option_copied_mut c.unwrap-task.ensures));
    }

pub invariant_of-self : goal.invariant_of-self
invariant_of-self c =
    written-fit c.numbers.result.now c.self.inside.by_name _ c.self.invariant c.unwrap-task.result.now _
    (sym c.get_mut.ensures.value ∙ ap option_copied_mut c.unwrap-task.ensures) refl refl c.get_mut.ensures.unique
    (c.get_mut.follows.holds _) (omega arith)
    (opened-in_order c.insert.result c.args.opened _ _ c.insert.ensures.number c.insert.ensures.ok c.insert.ensures.err)

pub returns-clause-number : goal.returns-clause-number
returns-clause-number c =
    let map = c.self.inside.by_name in
    let found = called-found c.numbers.result.now map map c.self.invariant c.unwrap-task.result.now
    (sym c.get_mut.ensures.value ∙ ap option_copied_mut c.unwrap-task.ensures) in
    ok-equal c.insert.result _ _
    (sym (ap (option_map free_number) ((λ i. called (sym c.numbers.ensures.value i) (sym c.self.view_is i).tasks) ∙ found)))
    c.insert.ensures.number

pub returns-clause-ok : goal.returns-clause-ok
returns-clause-ok c = OnOk_then c.insert.result (λ is. told (
    written-change c.numbers.result.now c.self.inside.by_name _ c.self.invariant
    (with_open c.args.opened) c.unwrap-task.result.now _
    (sym c.get_mut.ensures.value ∙ ap option_copied_mut c.unwrap-task.ensures) refl refl c.get_mut.ensures.unique
    (c.get_mut.follows.holds _) (λ i. record (task_of c.unwrap-task.result.now) { descriptors = is i })
    ∙ (λ i. changed_called (c.numbers.ensures.value i) (with_open c.args.opened) (c.self.view_is i).tasks))
    (ap (λ value. value.births) c.self.view_is))
    (opened-under c.insert.result c.args.opened _ _ _ c.insert.ensures.number c.insert.ensures.ok)

pub returns-clause-err : goal.returns-clause-err
returns-clause-err c = on-err c.insert.result (λ same. told (
    ap tasks_of (written-same c.numbers.result.now c.self.inside.by_name _ c.self.invariant c.unwrap-task.result.now _
    (λ i. record c.unwrap-task.result.now { descriptors = same i })
    (sym c.get_mut.ensures.value ∙ ap option_copied_mut c.unwrap-task.ensures) (c.get_mut.follows.holds _))
    ∙ ap (λ value. value.tasks) c.self.view_is)
    (ap (λ value. value.births) c.self.view_is)) c.insert.ensures.err
