use Rattle.std.proofs.Common.{[], ◌∷◌, ◌++◌, arith, le-ltb, length, nat_eq, refl, rules, sym, ℕ, ◌∙◌}
use Rattle.vt_spec.proofs.Common.{Place, is_empty, judging, make_rules, new_leaf_walk, symlink_made, unnumbered, walk_end}
use Rattle.vt_spec.specs.Machine.Rules.Making.{new_word_rules}
use Rattle.vt_spec.specs.declared.errors.Rule.TheVariants.{E1, W1, W2}
use Rattle.vt_tasks.specs.TaskValue.{task_of}
use Rattle.vt_rules.proofs.Rows.{skipped}
use Rattle.vt_walk.specs.WalkValue.{place_of}
use Rattle.vt_later.specs.Past.{table_past}
use Rattle.vt_later.proofs.Walked.{arrived, is_some_mapped}
use Rattle.vt_later.proofs.making.symlink.Goals as goal

pub returns : goal.returns
unfolding judging
returns g c asked =
    let looks = g.L.Look.looks c.args.world.now in
    let passed = c.args.passed.now in
    let task = task_of c.args.who.now in
    let place = place_of c.in_ok-place.place in
    let node = symlink_made task c.args.text.now in
    let rows = λ (at : Place ℕ). make_rules looks task at (unnumbered at node) in
    let there = c.is_some.ensures ∙ sym (is_some_mapped c.in_ok-place.place.object) in
    c.made.ensures asked node
    ∙ (λ i. table_past passed ((c.is_special.ensures i, E1) ∷ (there i, E1) ∷ rows place))
    ∙ sym (skipped (is_empty c.args.text.now) W1 _ _ (search rules)
    ∙ skipped _ W2 [] _ (le-ltb 4095 (length c.args.text.now) (omega arith))
    ∙ arrived (walk_end (new_leaf_walk nat_eq looks task c.args.path.now)) c.in_ok-place.place
    (λ at. table_past passed (new_word_rules at ++ rows at)) (λ seen. refl) c.in_ok-place.ensures.ok)
