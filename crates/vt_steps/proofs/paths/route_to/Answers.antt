use Rattle.std.proofs.Common.{Ok, ap, not, sym, ◌&&◌, ◌∙◌}
use Rattle.vt_spec.proofs.Common.{is_empty_list}
use Rattle.vt_tasks.specs.TaskValue.{task_of}
use Rattle.vt_steps.specs.RouteValue.{refuses, words_for, words_in}
use Rattle.vt_steps.proofs.RoutesWalked.{route-walked}
use Rattle.vt_steps.proofs.paths.route_to.Goals as goal

pub returns : goal.returns
returns g c =
    let looks = g.L.Look.looks c.args.walker.now.world.now in
    let task = task_of c.args.walker.now.who.now in
    let words = words_in c.in_ok-steps.steps in
    route-walked looks task c.args.aim c.args.path.now
    (sym c.in-Ok.ensures.value ∙ ap (λ text. Ok text) c.in-Ok.ensures.text) words c.last_fails-fails.result
    (c.in_ok-steps.ensures ∙ ap (words_for looks task c.args.aim) c.in-Ok.ensures.text)
    (c.last_fails-fails.ensures
    ∙ ap (λ text. not (is_empty_list words) && refuses looks task c.args.aim text) c.in-Ok.ensures.text)
