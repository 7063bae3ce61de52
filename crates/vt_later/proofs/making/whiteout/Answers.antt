use Rattle.std.proofs.Common.{[], ◌∷◌, nat_eq, not, refl, sym, ◌∙◌}
use Rattle.vt_spec.proofs.Common.{judging, new_leaf_walk, walk_end, whiteout_rules}
use Rattle.vt_spec.specs.declared.errors.Rule.TheVariants.{C1, E1, F1, F2, L1, O4}
use Rattle.vt_tasks.specs.TaskValue.{task_of}
use Rattle.vt_later.specs.Past.{table_past}
use Rattle.vt_later.proofs.Walked.{arrived, is_some_mapped}
use Rattle.vt_later.proofs.making.whiteout.Goals as goal

pub returns : goal.returns
unfolding judging
returns g c =
    let looks = g.L.Look.looks c.args.world.now in
    let passed = c.args.passed.now in
    let task = task_of c.args.who.now in
    let there = c.is_some.ensures ∙ sym (is_some_mapped c.in_ok-place.place.object) in
    c.first.ensures ∙ (λ i. table_past passed ((c.is_special.ensures i, E1) ∷ (there i, E1)
    ∷ (c.is_read_only.ensures i, F1) ∷ (c.has_no_upper.ensures i, F2) ∷ (c.is_locked.ensures i, L1)
    ∷ (not (c.may.ensures i), C1) ∷ (c.is_overlay.ensures i, O4) ∷ []))
    ∙ sym (arrived (walk_end (new_leaf_walk nat_eq looks task c.args.path.now)) c.in_ok-place.place
    (λ at. table_past passed (whiteout_rules looks task at)) (λ seen. refl) c.in_ok-place.ensures.ok)
