use Rattle.std.proofs.Common.{Err, Ok, ap, ◌∙◌}
use Rattle.vt_spec.proofs.Common.{err_from_is_err_and}
use Rattle.vt_location.specs.Locations.{location_of}
use Rattle.vt_tasks.specs.TaskValue.{task_of}
use Rattle.vt_walk.proofs.WalksOfPaths.{place_walk-by}
use Rattle.vt_walk.specs.PlainWalks.{placed}
use Rattle.vt_looks.specs.Places.{last_of}
use Rattle.vt_walk.specs.WalkValue.{here_of}
use Rattle.vt_walk.proofs.places.place_walk.Goals as goal

pub returns-in_err-here-clause-value : goal.returns-in_err-here-clause-value
returns-in_err-here-clause-value g c =
    let split = c.front_and_last-front in
    let p = err_from_is_err_and c.from_residual.result c.from_residual.ensures.1 in
    rw (p.1, p.2) (place_walk-by (g.L.Look.looks c.args.world.now) (task_of c.args.who.now) c.args.path.now c.as_bytes-text.ensures.limits c.as_bytes-text.result.now c.as_bytes-text.ensures.value
    (here_of c.at_start.result) c.at_start.ensures.value (Err _) split.result.0
    (last_of split.result.1) split.ensures.front split.ensures.last c.in_err-here.ensures.value)

pub returns-clause-value : goal.returns-clause-value
returns-clause-value g c =
    let split = c.front_and_last-front in
    let looks = g.L.Look.looks c.args.world.now in
    let task = task_of c.args.who.now in
    c.placed.ensures.value
    ∙ ap (placed looks task (location_of c.in_ok-here.here.location) (last_of split.result.1)) c.ends_in_slash.ensures
    ∙ place_walk-by looks task c.args.path.now c.as_bytes-text.ensures.limits c.as_bytes-text.result.now c.as_bytes-text.ensures.value
    (here_of c.at_start.result) c.at_start.ensures.value (Ok (here_of c.in_ok-here.here)) split.result.0
    (last_of split.result.1) split.ensures.front split.ensures.last c.in_ok-here.ensures.value
