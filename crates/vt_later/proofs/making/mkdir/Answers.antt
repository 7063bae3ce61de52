use Rattle.std.proofs.Common.{◌∷◌, ◌++◌, nat_eq, refl, sym, ℕ, ◌∙◌}
use Rattle.vt_spec.proofs.Common.{Place, directory_made, judging, make_rules, new_walk, unnumbered, walk_end}
use Rattle.vt_spec.specs.Machine.Rules.Making.{new_word_rules}
use Rattle.vt_spec.specs.declared.errors.Rule.TheVariants.{E1}
use Rattle.vt_tasks.specs.TaskValue.{task_of}
use Rattle.vt_walk.specs.WalkValue.{place_of}
use Rattle.vt_later.specs.Past.{table_past}
use Rattle.vt_later.proofs.Walked.{arrived, is_some_mapped}
use Rattle.vt_later.proofs.making.mkdir.Goals as goal

pub returns : goal.returns
unfolding judging
returns g c asked mode =
    let looks = g.L.Look.looks c.args.world.now in
    let passed = c.args.passed.now in
    let task = task_of c.args.who.now in
    let place = place_of c.in_ok-place.place in
    let rows = λ (at : Place ℕ). make_rules looks task at (unnumbered at (directory_made task at mode)) in
    let there = c.is_some.ensures ∙ sym (is_some_mapped c.in_ok-place.place.object) in
    c.made.ensures asked (directory_made task place mode)
    ∙ (λ i. table_past passed ((c.is_special.ensures i, E1) ∷ (there i, E1) ∷ rows place))
    ∙ sym (arrived (walk_end (new_walk nat_eq looks task c.args.path.now)) c.in_ok-place.place
    (λ at. table_past passed (new_word_rules at ++ rows at)) (λ seen. refl) c.in_ok-place.ensures.ok)
