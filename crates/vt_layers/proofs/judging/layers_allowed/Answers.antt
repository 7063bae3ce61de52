use Rattle.vt_spec.proofs.Common.{err_from_is_err_and}
use Rattle.vt_tasks.specs.TaskValue.{task_of}
use Rattle.vt_layers.specs.LayersValue.{layers_of}
use Rattle.vt_layers.proofs.JudgeLemmas.{named-passed, named-refused, named-ruled_out}
use Rattle.vt_layers.proofs.judging.layers_allowed.Goals as goal

pub returns-in_err-layers-clause-err : goal.returns-in_err-layers-clause-err
returns-in_err-layers-clause-err g c =
    let looks = g.L.Look.looks c.args.world.now in
    let task = task_of c.args.who.now in
    let p = err_from_is_err_and c.from_residual.result c.from_residual.ensures.1 in
    rw (p.1, p.2) (named-refused looks task c.args.options.now _ c.in_err-layers.ensures)

pub returns-in_err-may_be_layers-clause-err : goal.returns-in_err-may_be_layers-clause-err
returns-in_err-may_be_layers-clause-err g c =
    let looks = g.L.Look.looks c.args.world.now in
    let task = task_of c.args.who.now in
    let p = err_from_is_err_and c.from_residual-in_err-may_be_layers.result
    c.from_residual-in_err-may_be_layers.ensures.1 in
    rw (p.1, p.2) (named-ruled_out looks task c.args.options.now (layers_of c.in_ok-layers.layers) _
    c.in_ok-layers.ensures c.in_err-may_be_layers.ensures)

pub returns-clause-ok : goal.returns-clause-ok
returns-clause-ok g c =
    let looks = g.L.Look.looks c.args.world.now in
    let task = task_of c.args.who.now in
    named-passed looks task c.args.options.now (layers_of c.in_ok-layers.layers) c.in_ok-layers.ensures
    c.in_ok-may_be_layers.ensures
