use Rattle.std.proofs.Common.{◌≡◌, ap, nat_eq, sym, ◌∙◌}
use Rattle.vt_spec.proofs.Common.{Chown, attr_at, attr_with_owner, judging, may_chown, object_walk, walk_end}
use Rattle.vt_spec.specs.declared.attributes.Attr.{Attr}
use Rattle.vt_location.specs.Locations.{location_of}
use Rattle.vt_tasks.specs.TaskValue.{task_of}
use Rattle.vt_rules.proofs.Judged.{answers_alike}
use Rattle.vt_rules.specs.Permitted.{attr_permit}
use Rattle.vt_policy.specs.Judged.{judge_by_looks}
use Rattle.vt_policy.proofs.MountLemmas.{reached}
use Rattle.vt_policy.proofs.attributes.chown.Goals as goal

pub returns : goal.returns
unfolding judging
returns g c =
    let looks = g.L.Look.looks c.args.world.now in
    let task = task_of c.args.who.now in
    let at = location_of c.in_ok-object.object in
    let old = c.attr_at-old.result in
    let new : Attr = record { uid = c.unwrap_or.result; gid = c.unwrap_or-2.result; mode = old.mode } in
    let owner : attr_with_owner old c.args.uid c.args.gid ≡ new =
    (λ i. record { uid = sym c.unwrap_or.ensures i; gid = sym c.unwrap_or-2.ensures i; mode = old.mode }) in
    answers_alike task (judge_by_looks looks task (Chown c.args.path.now c.args.uid c.args.gid))
    (attr_permit looks at c.may_chown.result new) c.attr_permit.result
    (reached (walk_end (object_walk nat_eq looks task c.args.path.now)) at (λ at. attr_permit looks at
    (may_chown task.credentials (attr_at looks at) (attr_with_owner (attr_at looks at) c.args.uid c.args.gid))
    (attr_with_owner (attr_at looks at) c.args.uid c.args.gid)) c.in_ok-object.ensures.ok
    ∙ ap (λ attr. attr_permit looks at
    (may_chown task.credentials attr (attr_with_owner attr c.args.uid c.args.gid))
    (attr_with_owner attr c.args.uid c.args.gid)) (sym c.attr_at-old.ensures)
    ∙ ap (λ attr. attr_permit looks at (may_chown task.credentials old attr) attr) owner
    ∙ ap (λ allowed. attr_permit looks at allowed new) (sym c.may_chown.ensures)) c.attr_permit.ensures
