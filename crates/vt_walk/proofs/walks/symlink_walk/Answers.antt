use Rattle.std.proofs.Common.{Err, Ok, ap, sym, ◌∙◌}
use Rattle.vt_spec.proofs.Common.{err_from_is_err_and}
use Rattle.vt_tasks.specs.TaskValue.{task_of}
use Rattle.vt_walk.proofs.WalksOfPaths.{symlink_walk-by, symlink_walk-slash}
use Rattle.vt_looks.specs.Places.{last_of}
use Rattle.vt_walk.specs.WalkValue.{here_of, location_end}
use Rattle.vt_walk.proofs.walks.symlink_walk.Goals as goal

pub returns-then-ends_in_slash : goal.returns-then-ends_in_slash
returns-then-ends_in_slash g c = c.object_walk.ensures
    ∙ symlink_walk-slash (g.L.Look.looks c.args.world.now) (task_of c.args.who.now) c.args.path.now
    (sym c.ends_in_slash.ensures ∙ c.if-ends_in_slash.true)

pub returns-in_err-here : goal.returns-in_err-here
returns-in_err-here g c =
    let split = c.front_and_last-front in
    let p = err_from_is_err_and c.from_residual.result c.from_residual.ensures.1 in
    rw (p.1, p.2) (symlink_walk-by (g.L.Look.looks c.args.world.now) (task_of c.args.who.now) c.args.path.now c.as_bytes-text.ensures.limits c.as_bytes-text.result.now c.as_bytes-text.ensures.value
    (here_of c.at_start.result) c.at_start.ensures.value (Err _) split.result.0
    (last_of split.result.1) split.ensures.front split.ensures.last
    c.in_err-here.ensures.value (sym c.ends_in_slash.ensures ∙ c.if-ends_in_slash.false))

pub returns-in_err-last_walked : goal.returns-in_err-last_walked
returns-in_err-last_walked g c =
    let split = c.front_and_last-front in
    let p = err_from_is_err_and c.from_residual-in_err-last_walked.result c.from_residual-in_err-last_walked.ensures.1 in
    rw (p.1, p.2) (ap location_end c.in_err-last_walked.ensures
    ∙ symlink_walk-by (g.L.Look.looks c.args.world.now) (task_of c.args.who.now) c.args.path.now c.as_bytes-text.ensures.limits c.as_bytes-text.result.now c.as_bytes-text.ensures.value
    (here_of c.at_start.result) c.at_start.ensures.value (Ok (here_of c.in_ok-here.here)) split.result.0
    (last_of split.result.1) split.ensures.front split.ensures.last
    c.in_ok-here.ensures.value (sym c.ends_in_slash.ensures ∙ c.if-ends_in_slash.false))

pub returns : goal.returns
returns g c =
    let split = c.front_and_last-front in
    ap location_end c.in_ok-last_walked.ensures
    ∙ symlink_walk-by (g.L.Look.looks c.args.world.now) (task_of c.args.who.now) c.args.path.now c.as_bytes-text.ensures.limits c.as_bytes-text.result.now c.as_bytes-text.ensures.value
    (here_of c.at_start.result) c.at_start.ensures.value (Ok (here_of c.in_ok-here.here)) split.result.0
    (last_of split.result.1) split.ensures.front split.ensures.last
    c.in_ok-here.ensures.value (sym c.ends_in_slash.ensures ∙ c.if-ends_in_slash.false)
