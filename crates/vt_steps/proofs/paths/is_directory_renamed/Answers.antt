use Rattle.std.proofs.Common.{ap, nat_eq, sym, ◌∙◌}
use Rattle.vt_spec.proofs.Common.{old_leaf_walk, walk_end}
use Rattle.vt_tasks.specs.TaskValue.{task_of}
use Rattle.vt_walk.specs.WalkValue.{place_end}
use Rattle.vt_steps.proofs.Refused.{root-instead}
use Rattle.vt_steps.proofs.paths.is_directory_renamed.Goals as goal

pub returns-in-Err : goal.returns-in-Err
returns-in-Err g c =
    let looks = g.L.Look.looks c.args.world.now in
    let task = task_of c.args.who.now in
    c.is_directory_at-in-Err.ensures
    ∙ sym (root-instead looks task (old_leaf_walk nat_eq looks task c.args.old.now) _ (c.in-Err.ensures.value
    ∙ ap (λ path. place_end (walk_end (old_leaf_walk nat_eq looks task path))) c.in-Ok.ensures.text))
