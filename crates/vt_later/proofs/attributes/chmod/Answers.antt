use Rattle.std.proofs.Common.{ap, nat_eq, sym, ◌∙◌}
use Rattle.vt_spec.proofs.Common.{attr_at, attr_rules, attr_with_mode, judging, object_walk, owns, walk_end}
use Rattle.vt_location.specs.Locations.{location_of}
use Rattle.vt_tasks.specs.TaskValue.{task_of}
use Rattle.vt_later.specs.Past.{table_past}
use Rattle.vt_later.proofs.Walked.{reached}
use Rattle.vt_later.proofs.attributes.chmod.Goals as goal

pub returns : goal.returns
unfolding judging
returns g c asked mode =
    let looks = g.L.Look.looks c.args.world.now in
    let passed = c.args.passed.now in
    let task = task_of c.args.who.now in
    let at = location_of c.in_ok-object.object in
    let attr = attr_with_mode (attr_at looks at) mode in
    let allowed = c.owns-owner.ensures.value ∙ ap (λ attr. owns task.credentials attr) c.attr_at.ensures in
    c.attr_set.ensures asked attr ∙ (λ i. table_past passed (attr_rules looks at (allowed i) attr))
    ∙ sym (reached (walk_end (object_walk nat_eq looks task c.args.path.now)) c.in_ok-object.object (λ at.
    table_past passed (attr_rules looks at (owns task.credentials (attr_at looks at))
    (attr_with_mode (attr_at looks at) mode))) c.in_ok-object.ensures.ok)
