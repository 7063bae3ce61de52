use Rattle.std.proofs.Common.{[], ◌∷◌, ◌||◌, nat_eq, not, refl, sym, ◌∙◌}
use Rattle.vt_spec.proofs.Common.{and_then, hard_link_rules, is_special, judging, linking, new_leaf_walk, symlink_walk, walk_end}
use Rattle.vt_spec.specs.declared.errors.Rule.TheVariants.{B1, C1, E1, E7, F1, F2, L1, P2}
use Rattle.vt_location.specs.Locations.{location_of}
use Rattle.vt_tasks.specs.TaskValue.{task_of}
use Rattle.vt_walk.specs.WalkValue.{place_of}
use Rattle.vt_later.specs.Past.{table_past}
use Rattle.vt_later.proofs.Rows.{mounter_asked}
use Rattle.vt_later.proofs.Walked.{arrived, is_some_mapped, reached}
use Rattle.vt_later.proofs.making.link.Goals as goal

pub returns : goal.returns
unfolding judging
returns g c asked =
    let looks = g.L.Look.looks c.args.world.now in
    let passed = c.args.passed.now in
    let task = task_of c.args.who.now in
    let place = place_of c.in_ok-place.place in
    let object = location_of c.in_ok-object.object in
    let change = linking object place in
    let mounter = c.mounter_refusal-mounter in
    let there = c.is_some.ensures ∙ sym (is_some_mapped c.in_ok-place.place.object) in
    c.unless.ensures
    ∙ mounter_asked passed ((c.is_special.result, E1) ∷ (c.is_some.result, E1) ∷ (c.is_directory.result, E7)
    ∷ (c.is_read_only.result, F1) ∷ [])
    ((c.is_locked.result || c.is_locked-2.result, L1) ∷ (c.are_apart.result, P2) ∷ (not c.may.result, C1)
    ∷ (not c.mounter_may.result, B1) ∷ [])
    (looks.mounter_rules place.parent change) c.has_no_upper.result mounter.result (asked place.parent change)
    (λ upper. mounter.ensures change refl (sym c.has_no_upper.ensures ∙ upper))
    ∙ (λ i. table_past passed ((c.is_special.ensures i, E1) ∷ (there i, E1) ∷ (c.is_directory.ensures i, E7)
    ∷ (c.is_read_only.ensures i, F1) ∷ (c.has_no_upper.ensures i, F2)
    ∷ (c.is_locked.ensures i || c.is_locked-2.ensures i, L1) ∷ (c.are_apart.ensures i, P2)
    ∷ (not (c.may.ensures i), C1) ∷ (not (c.mounter_may.ensures i), B1)
    ∷ looks.mounter_rules place.parent change))
    ∙ sym (reached (walk_end (symlink_walk nat_eq looks task c.args.old.now)) c.in_ok-object.object
    (λ from. and_then (walk_end (new_leaf_walk nat_eq looks task c.args.new.now)) (λ at.
    table_past passed ((is_special at.last, E1) ∷ hard_link_rules nat_eq looks task from at (linking from at))))
    c.in_ok-object.ensures.ok
    ∙ arrived (walk_end (new_leaf_walk nat_eq looks task c.args.new.now)) c.in_ok-place.place (λ at.
    table_past passed ((is_special at.last, E1) ∷ hard_link_rules nat_eq looks task object at (linking object at)))
    (λ seen. refl) c.in_ok-place.ensures.ok)
