use Rattle.std.proofs.Common.{Bool, [], ap, sym, ◌∷◌, ◌∙◌}
use Rattle.vt_spec.proofs.Common.{err_from_is_err_and, judging, old_word_rules}
use Rattle.vt_spec.specs.declared.errors.Rule.TheVariants.{P1}
use Rattle.vt_tasks.specs.TaskValue.{task_of}
use Rattle.vt_rules.proofs.Refusals.{unless-stopped}
use Rattle.vt_walk.specs.WalkValue.{place_of}
use Rattle.vt_later.specs.Passing.{lets_pass, without}
use Rattle.vt_later.specs.Past.{table_past}
use Rattle.vt_later.proofs.Renamed.{new_found, old_word_refused}
use Rattle.vt_later.proofs.removing.rename.Goals as goal

pub returns-in_err-first : goal.returns-in_err-first
unfolding judging
returns-in_err-first g c asked =
    let looks = g.L.Look.looks c.args.world.now in
    let passed = c.args.passed.now in
    let task = task_of c.args.who.now in
    let from = c.in_ok-from.from in
    let there = c.in_ok-from.ensures.ok in
    let word = λ (special : Bool). table_past passed ((special, P1) ∷ []) in
    let p = err_from_is_err_and c.from_residual-in_err-first.result c.from_residual-in_err-first.ensures.1 in
    rw (p.1, p.2) (sym (old_word_refused looks task passed c.args.old.now c.args.new.now from there _
    (c.in_err-first.ensures ∙ ap word c.is_special.ensures)))

pub returns-in_err-first-2 : goal.returns-in_err-first-2
unfolding judging
returns-in_err-first-2 g c asked =
    let looks = g.L.Look.looks c.args.world.now in
    let passed = c.args.passed.now in
    let task = task_of c.args.who.now in
    let from = c.in_ok-from.from in
    let there = c.in_ok-from.ensures.ok in
    let word = λ (special : Bool). table_past passed ((special, P1) ∷ []) in
    let to = place_of c.in_ok-to.to in
    let found = new_found looks task passed c.args.old.now c.args.new.now from there
    (c.in_ok-first.ensures ∙ ap word c.is_special.ensures) _ c.in_ok-to.to c.is_directory_there.ensures
    c.in_ok-to.ensures.ok in
    let p = err_from_is_err_and c.from_residual-in_err-first-2.result c.from_residual-in_err-first-2.ensures.1 in
    rw (p.1, p.2) (sym (found ∙ unless-stopped (without (lets_pass passed) (old_word_rules to)) _ _
    (c.in_err-first-2.ensures ∙ ap word c.is_special-2.ensures)))
