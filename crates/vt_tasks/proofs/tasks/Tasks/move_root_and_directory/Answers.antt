use Rattle.std.proofs.Common.{arith, ap, sym, refl, ◌∙◌, option_map}
use Rattle.vt_spec.proofs.Common.{option_copied_mut}
use Rattle.vt_location.specs.Locations.{location_of}
use Rattle.vt_location.specs.Numbers.{counted}
use Rattle.vt_tasks.specs.TasksValue.{called, changed_called, in_order, left_by, left_of, tasks_of}
use Rattle.vt_tasks.proofs.KeptTasks.{called-absent, called-found, changed-absent, written-change, written-fit}
use Rattle.vt_tasks.proofs.TasksLemmas.{told}
use Rattle.vt_tasks.proofs.tasks.Tasks.move_root_and_directory.Goals as goal

pub returns-in_err-task-clause-left : goal.returns-in_err-task-clause-left
returns-in_err-task-clause-left c =
    let map = c.self.inside.by_name in
    let absent = called-absent c.numbers.result.now map map c.self.invariant
    (sym c.get_mut.ensures.value ∙ ap option_copied_mut c.in_err-task.was) in
    ap (option_map left_of) c.from_residual.ensures
    ∙ sym (ap (option_map left_by) ((λ i. called (sym c.numbers.ensures.value i) (sym c.self.view_is i).tasks) ∙ absent))

pub returns-in_err-task-clause-rest : goal.returns-in_err-task-clause-rest
returns-in_err-task-clause-rest c =
    let map = c.self.inside.by_name in
    told (ap (λ map. tasks_of (in_order map.entries)) c.get_mut.follows.holds-at-none
    ∙ sym (changed-absent c.numbers.result.now map map c.self.invariant (λ task. record task { namespace = counted c.args.namespace.count; root = location_of c.args.root; directory = location_of c.args.directory })
    (sym c.get_mut.ensures.value ∙ ap option_copied_mut c.in_err-task.was))
    ∙ (λ i. changed_called (c.numbers.ensures.value i) (λ task. record task { namespace = counted c.args.namespace.count; root = location_of c.args.root; directory = location_of c.args.directory }) (c.self.view_is i).tasks)) (ap (λ value. value.births) c.self.view_is)

pub invariant_of-self-2 : goal.invariant_of-self-2
invariant_of-self-2 c =
    written-fit c.numbers.result.now c.self.inside.by_name _ c.self.invariant c.in_ok-task.task.now _
    (sym c.get_mut.ensures.value ∙ ap option_copied_mut c.in_ok-task.was) refl refl c.get_mut.ensures.unique
    (c.get_mut.follows.holds _) (omega arith) (λ e. e)

pub returns-clause-left : goal.returns-clause-left
returns-clause-left c =
    let map = c.self.inside.by_name in
    let found = called-found c.numbers.result.now map map c.self.invariant c.in_ok-task.task.now
    (sym c.get_mut.ensures.value ∙ ap option_copied_mut c.in_ok-task.was) in
    sym (ap (option_map left_by) ((λ i. called (sym c.numbers.ensures.value i) (sym c.self.view_is i).tasks) ∙ found))

pub returns-clause-rest : goal.returns-clause-rest
returns-clause-rest c =
    told (written-change c.numbers.result.now c.self.inside.by_name _ c.self.invariant (λ task. record task { namespace = counted c.args.namespace.count; root = location_of c.args.root; directory = location_of c.args.directory }) c.in_ok-task.task.now _
    (sym c.get_mut.ensures.value ∙ ap option_copied_mut c.in_ok-task.was) refl refl c.get_mut.ensures.unique
    (c.get_mut.follows.holds _) refl
    ∙ (λ i. changed_called (c.numbers.ensures.value i) (λ task. record task { namespace = counted c.args.namespace.count; root = location_of c.args.root; directory = location_of c.args.directory }) (c.self.view_is i).tasks)) (ap (λ value. value.births) c.self.view_is)
