use Rattle.std.proofs.Common.{Bool, nat_eq, rules, ◌&&◌, ◌∙◌, ℕ}
use Rattle.vt_spec.proofs.Common.{Task, YieldsList-from_slice, any_from_yields_List, list_any}
use Rattle.vt_spec.specs.Machine.Sealed.{is_member_task}
use Rattle.vt_spec.specs.Machine.World.{locations_of, mount_at}
use Rattle.vt_tasks.specs.declared.task.Task.{Task as Held}
use Rattle.vt_tasks.specs.TaskValue.{task_of}
use Rattle.vt_sealing.specs.Seen.{is_open_through, world_seen}
use Rattle.vt_sealing.proofs.Lists.{some_task}
use Rattle.vt_sealing.proofs.sealing.Sealing.have_member_in_open.Goals as goal

pub returns : goal.returns
returns c =
    let names = c.args.self.now.names.now in
    let world = world_seen c.args.self.now in
    let test : Task ℕ → Bool = λ task. is_member_task names task && list_any (λ location.
    is_open_through c.args.self.now (mount_at nat_eq world location).filesystem) (locations_of task) in
    any_from_yields_List (λ (held : Held). test (task_of held)) _ _ _
    c.any.ensures.ran (YieldsList-from_slice c.kept.result.now cc) (λ x b q k. search rules)
    ∙ some_task test c.kept.result.now world.tasks c.kept.ensures.all
