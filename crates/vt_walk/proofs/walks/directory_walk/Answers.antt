use Rattle.std.proofs.Common.{Ok, Err, ap, sym, ◌∙◌}
use Rattle.vt_spec.proofs.Common.{err_from_is_err_and}
use Rattle.vt_location.specs.Locations.{location_of}
use Rattle.vt_tasks.specs.TaskValue.{task_of}
use Rattle.vt_walk.specs.WalkValue.{here_of}
use Rattle.vt_walk.proofs.WalksOfPaths.{directory-passed, directory-refused, directory_walk-by}
use Rattle.vt_walk.proofs.walks.directory_walk.Goals as goal

pub returns-in_err-here-clause-value : goal.returns-in_err-here-clause-value
returns-in_err-here-clause-value g c =
    let p = err_from_is_err_and c.from_residual.result c.from_residual.ensures.1 in
    rw (p.1, p.2) (directory_walk-by (g.L.Look.looks c.args.world.now)
    (task_of c.args.who.now) c.args.path.now c.words.ensures.limits c.as_bytes.result.now c.as_bytes.ensures.value
    (here_of c.at_start-start.result) c.at_start-start.ensures.value
    (Err _) c.words.result c.words.ensures.value c.in_err-here.ensures.value)

pub returns-then-not-is_directory_here-clause-value : goal.returns-then-not-is_directory_here-clause-value
returns-then-not-is_directory_here-clause-value g c =
    let looks = g.L.Look.looks c.args.world.now in
    let task = task_of c.args.who.now in
    ap (λ deny. Err deny) c.denial.ensures ∙ directory-refused looks task (location_of c.in_ok-here.here.location)
    (sym c.is_directory_here.ensures ∙ c.if-not-is_directory_here.true)
    ∙ directory_walk-by looks task c.args.path.now c.words.ensures.limits c.as_bytes.result.now c.as_bytes.ensures.value
    (here_of c.at_start-start.result) c.at_start-start.ensures.value
    (Ok (here_of c.in_ok-here.here)) c.words.result c.words.ensures.value c.in_ok-here.ensures.value

pub returns-clause-value : goal.returns-clause-value
returns-clause-value g c =
    let looks = g.L.Look.looks c.args.world.now in
    let task = task_of c.args.who.now in
    directory-passed looks task (location_of c.in_ok-here.here.location)
    (sym c.is_directory_here.ensures ∙ c.if-not-is_directory_here.false)
    ∙ directory_walk-by looks task c.args.path.now c.words.ensures.limits c.as_bytes.result.now c.as_bytes.ensures.value
    (here_of c.at_start-start.result) c.at_start-start.ensures.value
    (Ok (here_of c.in_ok-here.here)) c.words.result c.words.ensures.value c.in_ok-here.ensures.value
