use Rattle.std.proofs.Common.{Err, Ok, ap, nat_eq, refl, sym, ◌∙◌}
use Rattle.std.specs.Result.{result_ok}
use Rattle.vt_spec.proofs.Common.{MountOverlay, ToMountOverlay, err_from_is_err_and, judge, overlay_at}
use Rattle.vt_spec.specs.declared.errors.Rule.TheVariants.{M2, M9}
use Rattle.vt_cred.specs.MountFlags.{flags_of}
use Rattle.vt_location.specs.Locations.{location_of}
use Rattle.vt_tasks.specs.TaskValue.{task_of}
use Rattle.vt_rules.proofs.Judged.{no_receivers, refused_before}
use Rattle.vt_rules.proofs.Rows.{skipped, stopped}
use Rattle.vt_layers.specs.LayersValue.{layers_of}
use Rattle.vt_layers.proofs.JudgeLemmas.{left, no_list, nowhere, without_capability, without_layers}
use Rattle.vt_layers.proofs.judging.mount_overlay.Goals as goal

pub returns-then-lacks : goal.returns-then-lacks
returns-then-lacks g c =
    let looks = g.L.Look.looks c.args.world.now in
    let overfills = g.L.LookAtMounts.overfills c.args.world.now in
    let task = task_of c.args.who.now in
    let options = result_ok c.args.overlay.options.now in
    let flags = flags_of c.args.overlay.flags in
    refused_before (MountOverlay c.args.path.now options flags) task (judge nat_eq looks overfills task (MountOverlay c.args.path.now options flags)) _
    (without_capability looks task overfills c.args.path.now options flags (sym c.lacks.ensures ∙ c.if-lacks.true)
    ∙ ap Err (sym c.denial.ensures))

pub returns-in_err-destination : goal.returns-in_err-destination
returns-in_err-destination g c =
    let looks = g.L.Look.looks c.args.world.now in
    let overfills = g.L.LookAtMounts.overfills c.args.world.now in
    let task = task_of c.args.who.now in
    let options = result_ok c.args.overlay.options.now in
    let flags = flags_of c.args.overlay.flags in
    let p = err_from_is_err_and c.from_residual.result c.from_residual.ensures.1 in
    rw (p.1, p.2) (refused_before (MountOverlay c.args.path.now options flags) task (judge nat_eq looks overfills task (MountOverlay c.args.path.now options flags)) _
    (nowhere looks task overfills c.args.path.now options flags _ (sym c.lacks.ensures ∙ c.if-lacks.false)
    c.in_err-destination.ensures))

pub returns-in_err-layers : goal.returns-in_err-layers
returns-in_err-layers g c =
    let looks = g.L.Look.looks c.args.world.now in
    let overfills = g.L.LookAtMounts.overfills c.args.world.now in
    let task = task_of c.args.who.now in
    let options = result_ok c.args.overlay.options.now in
    let flags = flags_of c.args.overlay.flags in
    let p = err_from_is_err_and c.from_residual-in_err-layers.result c.from_residual-in_err-layers.ensures.1 in
    rw (p.1, p.2) (refused_before (MountOverlay c.args.path.now options flags) task (judge nat_eq looks overfills task (MountOverlay c.args.path.now options flags)) _
    (without_layers looks task overfills c.args.path.now options flags (location_of c.in_ok-destination.destination) _
    (sym c.lacks.ensures ∙ c.if-lacks.false) c.in_ok-destination.ensures c.in_err-layers.ensures.err))

pub returns-then-is_elsewhere : goal.returns-then-is_elsewhere
returns-then-is_elsewhere g c =
    let looks = g.L.Look.looks c.args.world.now in
    let overfills = g.L.LookAtMounts.overfills c.args.world.now in
    let task = task_of c.args.who.now in
    let options = result_ok c.args.overlay.options.now in
    let flags = flags_of c.args.overlay.flags in
    refused_before (MountOverlay c.args.path.now options flags) task (judge nat_eq looks overfills task (MountOverlay c.args.path.now options flags)) _
    (left looks task overfills c.args.path.now options flags (location_of c.in_ok-destination.destination)
    (layers_of c.in_ok-layers.layers) (sym c.lacks.ensures ∙ c.if-lacks.false) c.in_ok-destination.ensures
    c.in_ok-layers.ensures.ok ∙ stopped _ M2 _ _ (sym c.is_elsewhere.ensures ∙ c.if-is_elsewhere.true)
    ∙ ap Err (sym c.denial-then-is_elsewhere.ensures))

pub returns-in_err-overfills_with_overlay : goal.returns-in_err-overfills_with_overlay
returns-in_err-overfills_with_overlay g c =
    let looks = g.L.Look.looks c.args.world.now in
    let overfills = g.L.LookAtMounts.overfills c.args.world.now in
    let task = task_of c.args.who.now in
    let options = result_ok c.args.overlay.options.now in
    let flags = flags_of c.args.overlay.flags in
    let place = location_of c.in_ok-destination.destination in
    let permit = ToMountOverlay place (overlay_at looks task (layers_of c.in_ok-layers.layers))
    flags in
    let p = err_from_is_err_and c.from_residual-in_err-overfills_with_overlay.result
    c.from_residual-in_err-overfills_with_overlay.ensures.1 in
    rw (p.1, p.2) (no_receivers (MountOverlay c.args.path.now options flags) task
    (judge nat_eq looks overfills task (MountOverlay c.args.path.now options flags)) (overfills permit) permit _ refl
    (left looks task overfills c.args.path.now options flags place
    (layers_of c.in_ok-layers.layers) (sym c.lacks.ensures ∙ c.if-lacks.false) c.in_ok-destination.ensures
    c.in_ok-layers.ensures.ok ∙ skipped _ M2 _ _ (sym c.is_elsewhere.ensures ∙ c.if-is_elsewhere.false))
    c.in_err-overfills_with_overlay.ensures.memory)

pub returns-then-branch : goal.returns-then-branch
returns-then-branch g c =
    let looks = g.L.Look.looks c.args.world.now in
    let overfills = g.L.LookAtMounts.overfills c.args.world.now in
    let task = task_of c.args.who.now in
    let options = result_ok c.args.overlay.options.now in
    let flags = flags_of c.args.overlay.flags in
    let overlay = overlay_at looks task (layers_of c.in_ok-layers.layers) in
    refused_before (MountOverlay c.args.path.now options flags) task (judge nat_eq looks overfills task (MountOverlay c.args.path.now options flags)) _
    (left looks task overfills c.args.path.now options flags (location_of c.in_ok-destination.destination)
    (layers_of c.in_ok-layers.layers) (sym c.lacks.ensures ∙ c.if-lacks.false) c.in_ok-destination.ensures
    c.in_ok-layers.ensures.ok ∙ skipped _ M2 _ _ (sym c.is_elsewhere.ensures ∙ c.if-is_elsewhere.false)
    ∙ stopped _ M9 _ _ (sym (c.in_ok-overfills_with_overlay.ensures.ok overlay flags) ∙ c.if-branch.true)
    ∙ ap Err (sym c.denial-then-branch.ensures))

pub returns-in_err-new : goal.returns-in_err-new
returns-in_err-new g c =
    let looks = g.L.Look.looks c.args.world.now in
    let overfills = g.L.LookAtMounts.overfills c.args.world.now in
    let task = task_of c.args.who.now in
    let options = result_ok c.args.overlay.options.now in
    let flags = flags_of c.args.overlay.flags in
    let place = location_of c.in_ok-destination.destination in
    let overlay = overlay_at looks task (layers_of c.in_ok-layers.layers) in
    let p = err_from_is_err_and c.from_residual-in_err-new.result c.from_residual-in_err-new.ensures.1 in
    rw (p.1) (no_list (MountOverlay c.args.path.now options flags) task
    (judge nat_eq looks overfills task (MountOverlay c.args.path.now options flags))
    (ToMountOverlay place overlay flags) _ (left looks task overfills c.args.path.now options flags place
    (layers_of c.in_ok-layers.layers) (sym c.lacks.ensures ∙ c.if-lacks.false) c.in_ok-destination.ensures
    c.in_ok-layers.ensures.ok ∙ skipped _ M2 _ _ (sym c.is_elsewhere.ensures ∙ c.if-is_elsewhere.false)
    ∙ skipped _ M9 _ _ (sym (c.in_ok-overfills_with_overlay.ensures.ok overlay flags) ∙ c.if-branch.false)) p.2)

pub returns : goal.returns
returns g c =
    let looks = g.L.Look.looks c.args.world.now in
    let overfills = g.L.LookAtMounts.overfills c.args.world.now in
    let task = task_of c.args.who.now in
    let options = result_ok c.args.overlay.options.now in
    let flags = flags_of c.args.overlay.flags in
    let overlay = overlay_at looks task (layers_of c.in_ok-layers.layers) in
    left looks task overfills c.args.path.now options flags (location_of c.in_ok-destination.destination)
    (layers_of c.in_ok-layers.layers) (sym c.lacks.ensures ∙ c.if-lacks.false) c.in_ok-destination.ensures
    c.in_ok-layers.ensures.ok ∙ skipped _ M2 _ _ (sym c.is_elsewhere.ensures ∙ c.if-is_elsewhere.false)
    ∙ skipped _ M9 _ _ (sym (c.in_ok-overfills_with_overlay.ensures.ok overlay flags) ∙ c.if-branch.false)
    ∙ ap Ok (sym (c.in_ok-new.ensures task))
