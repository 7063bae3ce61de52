use Rattle.std.proofs.Common.{Bool, ap, nat_eq, not, rules, sym, ◌&&◌, ◌∙◌, ℕ}
use Rattle.vt_spec.proofs.Common.{Task, YieldsList-from_slice, any_from_yields_List}
use Rattle.vt_spec.specs.Machine.Sealed.{is_member_task, is_own_namespace}
use Rattle.vt_tasks.specs.declared.task.Task.{Task as Held}
use Rattle.vt_tasks.specs.TaskValue.{task_of}
use Rattle.vt_sealing.specs.Seen.{world_seen}
use Rattle.vt_sealing.proofs.Lists.{none_passing, some_task}
use Rattle.vt_sealing.proofs.sealing.Sealing.holds_all_tasks.Goals as goal

pub returns : goal.returns
returns c =
    let names = c.args.self.now.names.now in
    let world = world_seen c.args.self.now in
    let outside : Task ℕ → Bool = λ task. not (is_member_task names task) in
    let within : Task ℕ → Bool = λ task. is_own_namespace nat_eq world names task.namespace in
    ap not (any_from_yields_List (λ (held : Held). outside (task_of held) && within (task_of held)) _ _ _
    c.any.ensures.ran (YieldsList-from_slice c.kept.result.now cc) (λ x b q k. search rules)
    ∙ some_task (λ task. outside task && within task) c.kept.result.now world.tasks c.kept.ensures.all)
    ∙ sym (none_passing outside within world.tasks)
