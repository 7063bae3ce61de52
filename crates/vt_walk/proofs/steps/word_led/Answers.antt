use Rattle.std.proofs.Common.{ap, nat_eq, sym, ◌∙◌}
use Rattle.vt_spec.proofs.Common.{and_then, err_from_is_err_and, search_rules, stepped}
use Rattle.vt_location.specs.Locations.{location_of}
use Rattle.vt_tasks.specs.TaskValue.{task_of}
use Rattle.vt_walk.proofs.RefusalLemmas.{unless-and_then, unless-stopped}
use Rattle.vt_looks.specs.Places.{last_of}
use Rattle.vt_walk.proofs.steps.word_led.Goals as goal

pub returns-in_err-directory-clause-value : goal.returns-in_err-directory-clause-value
returns-in_err-directory-clause-value g c =
    let p = err_from_is_err_and c.from_residual.result c.from_residual.ensures.1 in
    let looks = g.L.Look.looks c.args.world.now in
    let task = task_of c.args.who.now in
    rw (p.1, p.2) (unless-stopped (search_rules nat_eq looks task (location_of c.args.from.location))
    (stepped nat_eq looks task (location_of c.args.from.location) (last_of c.args.word))
    _ c.in_err-directory.ensures.value)

pub returns-clause-value : goal.returns-clause-value
returns-clause-value g c =
    let looks = g.L.Look.looks c.args.world.now in
    let task = task_of c.args.who.now in
    let here = location_of c.args.from.location in
    let led = stepped nat_eq looks task here (last_of c.args.word) in
    c.stepped.ensures.value ∙ sym (unless-and_then (search_rules nat_eq looks task here) tt (λ searched. led)
    ∙ ap (λ r. and_then r (λ searched. led)) (sym c.in_ok-directory.ensures.value))
