use Rattle.std.proofs.Common.{[], ◌∷◌, ◌||◌, ap, nat_eq, not, refl, sym, ◌∙◌}
use Rattle.vt_spec.proofs.Common.{is_special, judging, object_there, old_leaf_walk, removing, unlink_rules, walk_end}
use Rattle.vt_spec.specs.declared.errors.Rule.TheVariants.{B1, C1, C3, E2, F1, F2, L1}
use Rattle.vt_location.specs.Locations.{location_of}
use Rattle.vt_tasks.specs.TaskValue.{task_of}
use Rattle.vt_walk.specs.WalkValue.{place_of}
use Rattle.vt_later.specs.Past.{table_past}
use Rattle.vt_later.proofs.Rows.{mounter_asked}
use Rattle.vt_later.proofs.Walked.{arrived}
use Rattle.vt_later.proofs.removing.unlink.Goals as goal

pub returns : goal.returns
unfolding judging
returns g c asked =
    let looks = g.L.Look.looks c.args.world.now in
    let passed = c.args.passed.now in
    let task = task_of c.args.who.now in
    let place = place_of c.in_ok-place.place in
    let object = location_of c.object_there-object.result in
    let change = removing place object in
    let mounter = c.mounter_refusal-mounter in
    c.unless.ensures
    ∙ mounter_asked passed ((c.is_special.result, E2) ∷ (c.is_directory.result, E2) ∷ (c.is_read_only.result, F1) ∷ [])
    ((c.is_locked.result || c.is_locked-2.result, L1) ∷ (not c.may.result, C1) ∷ (c.is_kept.result, C3)
    ∷ (not c.mounter_may.result, B1) ∷ [])
    (looks.mounter_rules place.parent change) c.has_no_upper.result mounter.result (asked place.parent change)
    (λ upper. mounter.ensures change refl (sym c.has_no_upper.ensures ∙ upper))
    ∙ (λ i. table_past passed ((c.is_special.ensures i, E2) ∷ (c.is_directory.ensures i, E2)
    ∷ (c.is_read_only.ensures i, F1) ∷ (c.has_no_upper.ensures i, F2)
    ∷ (c.is_locked.ensures i || c.is_locked-2.ensures i, L1) ∷ (not (c.may.ensures i), C1)
    ∷ (c.is_kept.ensures i, C3) ∷ (not (c.mounter_may.ensures i), B1) ∷ looks.mounter_rules place.parent change))
    ∙ ap (λ at. table_past passed ((is_special place.last, E2) ∷ unlink_rules looks task place at))
    c.object_there-object.ensures
    ∙ sym (arrived (walk_end (old_leaf_walk nat_eq looks task c.args.path.now)) c.in_ok-place.place (λ at.
    table_past passed ((is_special at.last, E2) ∷ unlink_rules looks task at (object_there at))) (λ seen. refl)
    c.in_ok-place.ensures.ok)
