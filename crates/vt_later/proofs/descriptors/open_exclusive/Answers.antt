use Rattle.std.proofs.Common.{[], ◌∷◌, is_some, nat_eq, refl, sym, ℕ, ◌∙◌}
use Rattle.vt_spec.proofs.Common.{Place, exclusive_word_rules, make_rules, new_file, new_walk, unless, unnumbered, walk_end}
use Rattle.vt_spec.specs.declared.errors.Rule.TheVariants.{E1, E2}
use Rattle.vt_tasks.specs.TaskValue.{task_of}
use Rattle.vt_walk.specs.WalkValue.{place_of}
use Rattle.vt_later.specs.Passing.{lets_pass, without}
use Rattle.vt_later.specs.Past.{table_past}
use Rattle.vt_later.proofs.Walked.{arrived, is_some_mapped}
use Rattle.vt_later.proofs.descriptors.open_exclusive.Goals as goal

pub returns : goal.returns
returns g c asked access mode =
    let looks = g.L.Look.looks c.args.world.now in
    let passed = c.args.passed.now in
    let task = task_of c.args.who.now in
    let place = place_of c.in_ok-place.place in
    let rows = λ (at : Place ℕ). make_rules looks task at (unnumbered at (new_file task mode [])) in
    let made = c.made.ensures asked (new_file task mode []) in
    let there = c.is_some.ensures ∙ sym (is_some_mapped c.in_ok-place.place.object) in
    let behind = made ∙ (λ i. table_past passed ((there i, E1) ∷ rows place)) in
    c.unless.ensures
    ∙ (λ i. unless (without (lets_pass passed) ((c.is_special.ensures i, E1) ∷ (place.slash, E2) ∷ [])) (behind i))
    ∙ sym (arrived (walk_end (new_walk nat_eq looks task c.args.path.now)) c.in_ok-place.place (λ at.
    unless (without (lets_pass passed) (exclusive_word_rules at))
    (table_past passed ((is_some at.object, E1) ∷ rows at))) (λ seen. refl) c.in_ok-place.ensures.ok)
