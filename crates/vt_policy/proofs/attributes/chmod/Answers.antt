use Rattle.std.proofs.Common.{ap, nat_eq, sym, ◌∙◌}
use Rattle.vt_spec.proofs.Common.{Chmod, attr_at, attr_with_mode, judging, object_walk, owns, walk_end}
use Rattle.vt_location.specs.Locations.{location_of}
use Rattle.vt_tasks.specs.TaskValue.{task_of}
use Rattle.vt_rules.proofs.Judged.{answers_alike}
use Rattle.vt_rules.specs.Permitted.{attr_permit}
use Rattle.vt_policy.specs.Judged.{judge_by_looks}
use Rattle.vt_policy.proofs.MountLemmas.{reached}
use Rattle.vt_policy.proofs.attributes.chmod.Goals as goal

pub returns : goal.returns
unfolding judging
returns g c =
    let looks = g.L.Look.looks c.args.world.now in
    let task = task_of c.args.who.now in
    let at = location_of c.in_ok-object.object in
    let old = c.attr_at-old.result in
    answers_alike task (judge_by_looks looks task (Chmod c.args.path.now c.args.mode))
    (attr_permit looks at c.owns.result (attr_with_mode old c.args.mode)) c.attr_permit.result
    (reached (walk_end (object_walk nat_eq looks task c.args.path.now)) at
    (λ at. attr_permit looks at (owns task.credentials (attr_at looks at))
    (attr_with_mode (attr_at looks at) c.args.mode)) c.in_ok-object.ensures.ok
    ∙ ap (λ attr. attr_permit looks at (owns task.credentials attr) (attr_with_mode attr c.args.mode))
    (sym c.attr_at-old.ensures)
    ∙ ap (λ allowed. attr_permit looks at allowed (attr_with_mode old c.args.mode)) (sym c.owns.ensures.value))
    c.attr_permit.ensures
