use Rattle.std.proofs.Common.{Err, nat_eq, ap, is_some, not, sym, ◌∙◌}
use Rattle.vt_spec.proofs.Common.{MoveMount, ToMove, err_from_is_err_and, judge}
use Rattle.vt_spec.specs.declared.errors.Rule.TheVariants.{M10, M9}
use Rattle.vt_spec.specs.Machine.Looks.{mount_at}
use Rattle.vt_location.specs.Locations.{location_of}
use Rattle.vt_tasks.specs.TaskValue.{task_of}
use Rattle.vt_rules.proofs.Judged.{no_receivers_of_move, refused_before}
use Rattle.vt_policy.proofs.MoveLemmas.{move_left, move_refused}
use Rattle.vt_rules.proofs.Rows.{skipped, stopped}
use Rattle.vt_policy.proofs.mounting.move_mount.Goals as goal

pub returns-in_err-may_move : goal.returns-in_err-may_move
returns-in_err-may_move g c =
    let looks = g.L.Look.looks c.args.world.now in
    let overfills = g.L.LookAtMounts.overfills c.args.world.now in
    let task = task_of c.args.who.now in
    let source = location_of c.in_ok-source.source in
    let destination = location_of c.in_ok-destination.destination in
    let p = err_from_is_err_and c.from_residual-in_err-may_move.result c.from_residual-in_err-may_move.ensures.1 in
    rw (p.1, p.2) (refused_before (MoveMount c.args.source.now c.args.path.now) task
    (judge nat_eq looks overfills task (MoveMount c.args.source.now c.args.path.now)) _
    (move_refused looks overfills task c.args.source.now c.args.path.now source destination
    (sym c.lacks.ensures ∙ c.if-lacks.false) c.in_ok-source.ensures.ok c.in_ok-destination.ensures.ok _ c.in_err-may_move.ensures))

pub returns-in_err-overfills : goal.returns-in_err-overfills
returns-in_err-overfills g c =
    let looks = g.L.Look.looks c.args.world.now in
    let overfills = g.L.LookAtMounts.overfills c.args.world.now in
    let task = task_of c.args.who.now in
    let source = location_of c.in_ok-source.source in
    let destination = location_of c.in_ok-destination.destination in
    let permit = ToMove source.mount destination in
    let p = err_from_is_err_and c.from_residual-in_err-overfills.result c.from_residual-in_err-overfills.ensures.1 in
    rw (p.1, p.2) (no_receivers_of_move c.args.source.now c.args.path.now task
    (judge nat_eq looks overfills task (MoveMount c.args.source.now c.args.path.now))
    (overfills permit) (not (is_some (mount_at looks source).mount_point)) permit _
    (move_left looks overfills task c.args.source.now c.args.path.now source destination
    (sym c.lacks.ensures ∙ c.if-lacks.false) c.in_ok-source.ensures.ok c.in_ok-destination.ensures.ok c.in_ok-may_move.ensures)
    c.in_err-overfills.ensures.memory)

pub returns-then-branch : goal.returns-then-branch
returns-then-branch g c =
    let looks = g.L.Look.looks c.args.world.now in
    let overfills = g.L.LookAtMounts.overfills c.args.world.now in
    let task = task_of c.args.who.now in
    let source = location_of c.in_ok-source.source in
    let destination = location_of c.in_ok-destination.destination in
    refused_before (MoveMount c.args.source.now c.args.path.now) task
    (judge nat_eq looks overfills task (MoveMount c.args.source.now c.args.path.now)) _
    (move_left looks overfills task c.args.source.now c.args.path.now source destination
    (sym c.lacks.ensures ∙ c.if-lacks.false) c.in_ok-source.ensures.ok c.in_ok-destination.ensures.ok c.in_ok-may_move.ensures
    ∙ stopped _ M9 _ _ (sym c.in_ok-overfills.ensures.ok ∙ c.if-branch.true)
    ∙ ap Err (sym c.denial-then-branch.ensures))

pub returns-then-not-is_attached_somewhere : goal.returns-then-not-is_attached_somewhere
returns-then-not-is_attached_somewhere g c =
    let looks = g.L.Look.looks c.args.world.now in
    let overfills = g.L.LookAtMounts.overfills c.args.world.now in
    let task = task_of c.args.who.now in
    let source = location_of c.in_ok-source.source in
    let destination = location_of c.in_ok-destination.destination in
    refused_before (MoveMount c.args.source.now c.args.path.now) task
    (judge nat_eq looks overfills task (MoveMount c.args.source.now c.args.path.now)) _
    (move_left looks overfills task c.args.source.now c.args.path.now source destination
    (sym c.lacks.ensures ∙ c.if-lacks.false) c.in_ok-source.ensures.ok c.in_ok-destination.ensures.ok c.in_ok-may_move.ensures
    ∙ skipped _ M9 _ _ (sym c.in_ok-overfills.ensures.ok ∙ c.if-branch.false)
    ∙ stopped _ M10 _ _ (ap not (sym c.is_attached_somewhere.ensures ∙ c.if-not-is_attached_somewhere.true))
    ∙ ap Err (sym c.denial-then-not-is_attached_somewhere.ensures))

pub returns : goal.returns
returns g c =
    let looks = g.L.Look.looks c.args.world.now in
    let overfills = g.L.LookAtMounts.overfills c.args.world.now in
    let task = task_of c.args.who.now in
    let source = location_of c.in_ok-source.source in
    let destination = location_of c.in_ok-destination.destination in
    move_left looks overfills task c.args.source.now c.args.path.now source destination
    (sym c.lacks.ensures ∙ c.if-lacks.false) c.in_ok-source.ensures.ok c.in_ok-destination.ensures.ok c.in_ok-may_move.ensures
    ∙ skipped _ M9 _ _ (sym c.in_ok-overfills.ensures.ok ∙ c.if-branch.false)
    ∙ skipped _ M10 _ _ (ap not (sym c.is_attached_somewhere.ensures ∙ c.if-not-is_attached_somewhere.false))
