use Rattle.std.proofs.Common.{[], ◌∷◌, ◌||◌, ap, nat_eq, not, refl, sym, ◌∙◌}
use Rattle.vt_spec.proofs.Common.{removing, rmdir_rules}
use Rattle.vt_spec.specs.declared.errors.Rule.TheVariants.{B1, C1, C3, E3, E4, F1, F2, L1, P1}
use Rattle.vt_location.specs.Locations.{location_of}
use Rattle.vt_tasks.specs.TaskValue.{task_of}
use Rattle.vt_walk.specs.WalkValue.{place_of}
use Rattle.vt_later.specs.Past.{table_past}
use Rattle.vt_later.proofs.Rows.{mounter_asked}
use Rattle.vt_later.proofs.removing.directory_removed.Goals as goal

pub returns : goal.returns
returns g c asked =
    let looks = g.L.Look.looks c.args.world.now in
    let passed = c.args.passed.now in
    let task = task_of c.args.who.now in
    let place = place_of c.args.place.now in
    let object = location_of c.object_there-object.result in
    let change = removing place object in
    let mounter = c.mounter_refusal-mounter in
    c.unless.ensures
    ∙ mounter_asked passed ((not c.is_directory.result, E3) ∷ (c.is_nonempty.result, E4) ∷ (c.is_read_only.result, F1) ∷ [])
    ((c.is_locked.result || c.is_locked-2.result, L1) ∷ (c.is_mount_point_in.result, P1) ∷ (not c.may.result, C1)
    ∷ (c.is_kept.result, C3) ∷ (not c.mounter_may.result, B1) ∷ [])
    (looks.mounter_rules place.parent change) c.has_no_upper.result mounter.result (asked place.parent change)
    (λ upper. mounter.ensures change refl (sym c.has_no_upper.ensures ∙ upper))
    ∙ (λ i. table_past passed ((not (c.is_directory.ensures i), E3) ∷ (c.is_nonempty.ensures i, E4)
    ∷ (c.is_read_only.ensures i, F1) ∷ (c.has_no_upper.ensures i, F2)
    ∷ (c.is_locked.ensures i || c.is_locked-2.ensures i, L1) ∷ (c.is_mount_point_in.ensures i, P1)
    ∷ (not (c.may.ensures i), C1) ∷ (c.is_kept.ensures i, C3) ∷ (not (c.mounter_may.ensures i), B1)
    ∷ looks.mounter_rules place.parent change))
    ∙ ap (λ at. table_past passed (rmdir_rules nat_eq looks task place at)) c.object_there-object.ensures
