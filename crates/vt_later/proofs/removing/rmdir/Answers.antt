use Rattle.std.proofs.Common.{[], ◌∷◌, nat_eq, refl, sym, ◌∙◌}
use Rattle.vt_spec.proofs.Common.{judging, object_there, old_walk, rmdir_rules, rmdir_word_rules, unless, walk_end}
use Rattle.vt_spec.specs.declared.errors.Rule.TheVariants.{E4, E5, P1}
use Rattle.vt_tasks.specs.TaskValue.{task_of}
use Rattle.vt_later.specs.Passing.{lets_pass, without}
use Rattle.vt_later.specs.Past.{table_past}
use Rattle.vt_later.proofs.Walked.{arrived}
use Rattle.vt_later.proofs.removing.rmdir.Goals as goal

pub returns : goal.returns
unfolding judging
returns g c asked =
    let looks = g.L.Look.looks c.args.world.now in
    let passed = c.args.passed.now in
    let task = task_of c.args.who.now in
    let removed = c.directory_removed.ensures asked in
    c.unless.ensures ∙ (λ i. unless (without (lets_pass passed) ((c.is_dot_dot.ensures i, E4) ∷ (c.is_dot.ensures i, E5)
    ∷ (c.is_no_word.ensures i, P1) ∷ [])) (removed i))
    ∙ sym (arrived (walk_end (old_walk nat_eq looks task c.args.path.now)) c.in_ok-place.place (λ at.
    unless (without (lets_pass passed) (rmdir_word_rules at))
    (table_past passed (rmdir_rules nat_eq looks task at (object_there at)))) (λ seen. refl) c.in_ok-place.ensures.ok)
