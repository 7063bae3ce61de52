use Rattle.vt_spec.proofs.Common.{err_from_is_err_and}
use Rattle.vt_tasks.specs.TaskValue.{task_of}
use Rattle.vt_layers.proofs.WalkLemmas.{given-refused}
use Rattle.vt_layers.proofs.walks.walked_if_given.Goals as goal

pub returns-in_err-layer_at-in-Some : goal.returns-in_err-layer_at-in-Some
returns-in_err-layer_at-in-Some g c =
    let p = err_from_is_err_and c.from_residual.result c.from_residual.ensures.1 in
    rw (p.1, p.2, c.in-Some.is) (given-refused (g.L.Look.looks c.args.world.now) (task_of c.args.who.now)
    c.in-Some.path.now _ c.in_err-layer_at-in-Some.ensures)
