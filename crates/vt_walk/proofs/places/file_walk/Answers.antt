use Rattle.std.proofs.Common.{Err, ap, ◌∙◌}
use Rattle.vt_spec.proofs.Common.{err_from_is_err_and}
use Rattle.vt_tasks.specs.TaskValue.{task_of}
use Rattle.vt_walk.proofs.FilesWalked.{file_walk-by, new-passed, new-refused}
use Rattle.vt_walk.specs.WalkValue.{place_of}
use Rattle.vt_walk.proofs.places.file_walk.Goals as goal

pub returns-in_err-place-clause-value : goal.returns-in_err-place-clause-value
returns-in_err-place-clause-value g c =
    let p = err_from_is_err_and c.from_residual.result c.from_residual.ensures.1 in
    rw (p.1, p.2) (file_walk-by (g.L.Look.looks c.args.world.now)
    (task_of c.args.who.now) c.args.path.now c.in_err-place.ensures.limits (Err _) c.in_err-place.ensures.value)

pub returns-then-takes_no_name-clause-value : goal.returns-then-takes_no_name-clause-value
returns-then-takes_no_name-clause-value g c = ap (λ deny. Err deny) c.denial.ensures
    ∙ new-refused (g.L.Look.looks c.args.world.now)
    (task_of c.args.who.now) c.args.path.now c.in_ok-place.ensures.limits
    (place_of c.in_ok-place.place) c.in_ok-place.ensures.value
    c.takes_no_name.result c.takes_no_name.ensures c.if-takes_no_name.true

pub returns-clause-value : goal.returns-clause-value
returns-clause-value g c =
    new-passed (g.L.Look.looks c.args.world.now) (task_of c.args.who.now) c.args.path.now c.in_ok-place.ensures.limits
    (place_of c.in_ok-place.place) c.in_ok-place.ensures.value
    c.takes_no_name.result c.takes_no_name.ensures c.if-takes_no_name.false
