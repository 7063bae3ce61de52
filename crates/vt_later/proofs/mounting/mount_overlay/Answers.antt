use Rattle.std.proofs.Common.{[], ◌∷◌, ap, inl, nat_eq, sym, ◌∙◌}
use Rattle.std.specs.Result.{result_ok}
use Rattle.vt_spec.proofs.Common.{and_then, destination_walk, err_from_is_err_and, judging, overlay_at, walk_end}
use Rattle.vt_spec.specs.declared.errors.Rule.TheVariants.{M2, M9}
use Rattle.vt_spec.specs.Machine.Judging.{mounts_overlay_at}
use Rattle.vt_location.specs.Locations.{location_of}
use Rattle.vt_tasks.specs.TaskValue.{task_of}
use Rattle.vt_layers.specs.LayersValue.{layers_of}
use Rattle.vt_later.specs.Past.{refusal_past, table_past}
use Rattle.vt_later.proofs.Judged.{exactly}
use Rattle.vt_later.proofs.Layered.{layered, mount_rules}
use Rattle.vt_later.proofs.Walked.{reached}
use Rattle.vt_later.proofs.mounting.mount_overlay.Goals as goal

pub returns-in_err-layers_named : goal.returns-in_err-layers_named
unfolding judging
returns-in_err-layers_named g c flags =
    let looks = g.L.Look.looks c.args.world.now in
    let overfills = g.L.LookAtMounts.overfills c.args.world.now in
    let passed = c.args.passed.now in
    let task = task_of c.args.who.now in
    let at = location_of c.in_ok-destination.destination in
    let options = result_ok c.args.options.now in
    let p = err_from_is_err_and c.from_residual-in_err-layers_named.result c.from_residual-in_err-layers_named.ensures.1 in
    rw (p.1, p.2) (inl (reached (walk_end (destination_walk nat_eq looks task c.args.path.now))
    c.in_ok-destination.destination (λ at.
    refusal_past looks task passed overfills (mounts_overlay_at nat_eq looks task at options flags))
    c.in_ok-destination.ensures.ok
    ∙ layered looks task passed overfills at options flags
    ∙ ap (λ named. and_then named (λ layers. table_past passed (mount_rules looks task passed overfills at flags layers)))
    (sym c.in_err-layers_named.ensures.err)))

pub returns : goal.returns
unfolding judging
returns g c flags =
    let looks = g.L.Look.looks c.args.world.now in
    let overfills = g.L.LookAtMounts.overfills c.args.world.now in
    let passed = c.args.passed.now in
    let task = task_of c.args.who.now in
    let at = location_of c.in_ok-destination.destination in
    let options = result_ok c.args.options.now in
    let overlay = overlay_at looks task (layers_of c.in_ok-layers_named.field-0) in
    let overfull = c.in_ok-overfull.ensures.ok overlay flags in
    exactly _ c.first.result (c.first.ensures
    ∙ (λ i. table_past passed ((c.is_elsewhere.ensures i, M2) ∷ (overfull i, M9) ∷ []))
    ∙ sym (reached (walk_end (destination_walk nat_eq looks task c.args.path.now))
    c.in_ok-destination.destination (λ at.
    refusal_past looks task passed overfills (mounts_overlay_at nat_eq looks task at options flags))
    c.in_ok-destination.ensures.ok
    ∙ layered looks task passed overfills at options flags
    ∙ ap (λ named. and_then named (λ layers. table_past passed (mount_rules looks task passed overfills at flags layers)))
    (sym c.in_ok-layers_named.ensures.ok)))
