use Rattle.std.proofs.Common.{Bool, nat_eq, rules, sym, ◌&&◌, ◌∙◌, ℕ}
use Rattle.vt_spec.proofs.Common.{Task, YieldsList-from_slice, any_from_yields_List}
use Rattle.vt_spec.specs.Machine.Sealed.{is_member_task}
use Rattle.vt_location.specs.Numbers.{counted}
use Rattle.vt_tasks.specs.declared.task.Task.{Task as Held}
use Rattle.vt_tasks.specs.TaskValue.{task_of}
use Rattle.vt_sealing.specs.Seen.{world_seen}
use Rattle.vt_sealing.proofs.Lists.{some_task, some_turned}
use Rattle.vt_sealing.proofs.sealing.Sealing.is_own_namespace.Goals as goal

pub returns : goal.returns
returns c =
    let names = c.args.self.now.names.now in
    let world = world_seen c.args.self.now in
    let within : Task ℕ → Bool = λ task. nat_eq (counted c.args.namespace.count) task.namespace in
    any_from_yields_List (λ (held : Held). within (task_of held) && is_member_task names (task_of held)) _ _ _
    c.any.ensures.ran (YieldsList-from_slice c.kept.result.now cc) (λ x b q k. search rules)
    ∙ some_task (λ task. within task && is_member_task names task) c.kept.result.now world.tasks c.kept.ensures.all
    ∙ sym (some_turned (is_member_task names) within world.tasks)
