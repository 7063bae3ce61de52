use Rattle.std.proofs.Common.{[], nat_eq, ◌∷◌}
use Rattle.vt_spec.proofs.Common.{at_topmost, err_from_is_err_and, source_walk, walk_unless}
use Rattle.vt_spec.specs.declared.errors.Rule.TheVariants.{W8}
use Rattle.vt_spec.specs.Machine.Looks.{topmost}
use Rattle.vt_tasks.specs.TaskValue.{task_of}
use Rattle.vt_walk.proofs.WalkEnds.{location-refused}
use Rattle.vt_walk.proofs.walks.destination_walk.Goals as goal

pub returns-in_err-source-clause-value : goal.returns-in_err-source-clause-value
returns-in_err-source-clause-value g c =
    let looks = g.L.Look.looks c.args.world.now in
    let p = err_from_is_err_and c.from_residual.result c.from_residual.ensures.1 in
    rw (p.1, p.2) (location-refused (source_walk nat_eq looks (task_of c.args.who.now) c.args.path.now)
    (λ here. walk_unless here.steps ((looks.is_removed (topmost looks here.location), W8) ∷ []) (at_topmost looks here))
    _ c.in_err-source.ensures.value)
