use Rattle.std.proofs.Common.{ap, false, nat_eq, ◌+◌, ◌∙◌}
use Rattle.vt_spec.proofs.Common.{most_symlinks, walk_start}
use Rattle.vt_spec.specs.Machine.Walking.{file_walked}
use Rattle.vt_tasks.specs.TaskValue.{task_of}
use Rattle.vt_steps.specs.StepsValue.{place_of}
use Rattle.vt_steps.proofs.Endings.{ends-alike}
use Rattle.vt_steps.proofs.walked.whole_file_walked.Goals as goal

pub returns : goal.returns
returns g c =
    let looks = g.L.Look.looks c.args.walker.now.world.now in
    let task = task_of c.args.walker.now.who.now in
    let same = c.as_bytes-text.ensures.value in
    ends-alike place_of _ _ c.file_walked.result (λ i. file_walked nat_eq (most_symlinks + 1) looks task
    ((c.walk_start-start.ensures ∙ ap (walk_start task) same) i) (same i) false) c.file_walked.ensures
