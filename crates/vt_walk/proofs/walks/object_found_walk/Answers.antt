use Rattle.std.proofs.Common.{Ok, Err, ◌∙◌}
use Rattle.vt_spec.proofs.Common.{err_from_is_err_and}
use Rattle.vt_location.specs.Locations.{location_of}
use Rattle.vt_tasks.specs.TaskValue.{task_of}
use Rattle.vt_walk.specs.WalkValue.{here_of}
use Rattle.vt_walk.proofs.WalksOfPaths.{object_walk-by, slash-passed, slash-refused}
use Rattle.vt_walk.proofs.walks.object_found_walk.Goals as goal

pub returns-in_err-here-clause-value : goal.returns-in_err-here-clause-value
returns-in_err-here-clause-value g c =
    let p = err_from_is_err_and c.from_residual.result c.from_residual.ensures.1 in
    rw (p.1, p.2) (object_walk-by (g.L.Look.looks c.args.world.now) (task_of c.args.who.now) c.args.path.now c.words.ensures.limits c.as_bytes-text.result.now c.as_bytes-text.ensures.value
    (here_of c.at_start.result) c.at_start.ensures.value (Err _) c.words.result c.words.ensures.value c.in_err-here.ensures.value)

pub returns-in_err-asked_by_slash-clause-value : goal.returns-in_err-asked_by_slash-clause-value
returns-in_err-asked_by_slash-clause-value g c =
    let looks = g.L.Look.looks c.args.world.now in
    let task = task_of c.args.who.now in
    let p = err_from_is_err_and c.from_residual-in_err-asked_by_slash.result c.from_residual-in_err-asked_by_slash.ensures.1 in
    rw (p.1, p.2) (slash-refused looks task c.as_bytes-text.result.now
    (location_of c.in_ok-here.here.location) _ c.in_err-asked_by_slash.ensures
    ∙ object_walk-by looks task c.args.path.now c.words.ensures.limits c.as_bytes-text.result.now c.as_bytes-text.ensures.value
    (here_of c.at_start.result) c.at_start.ensures.value
    (Ok (here_of c.in_ok-here.here)) c.words.result c.words.ensures.value c.in_ok-here.ensures.value)

pub returns-clause-value : goal.returns-clause-value
returns-clause-value g c =
    let looks = g.L.Look.looks c.args.world.now in
    let task = task_of c.args.who.now in
    slash-passed looks task c.as_bytes-text.result.now
    (location_of c.in_ok-here.here.location) c.in_ok-asked_by_slash.ensures
    ∙ object_walk-by looks task c.args.path.now c.words.ensures.limits c.as_bytes-text.result.now c.as_bytes-text.ensures.value
    (here_of c.at_start.result) c.at_start.ensures.value
    (Ok (here_of c.in_ok-here.here)) c.words.result c.words.ensures.value c.in_ok-here.ensures.value
