use Rattle.std.proofs.Common.{Err, Ok, option_map, sym, ◌∙◌}
use Rattle.vt_spec.proofs.Common.{err_from_is_err_and}
use Rattle.vt_location.specs.Locations.{location_of}
use Rattle.vt_tasks.specs.TaskValue.{task_of}
use Rattle.vt_walk.proofs.WalksOfPaths.{placed-refused, placed-searched}
use Rattle.vt_looks.specs.Places.{last_of}
use Rattle.vt_walk.proofs.places.placed.Goals as goal

pub returns-in_err-directory-clause-value : goal.returns-in_err-directory-clause-value
returns-in_err-directory-clause-value g c =
    let p = err_from_is_err_and c.from_residual.result c.from_residual.ensures.1 in
    rw (p.1, p.2) (placed-refused (g.L.Look.looks c.args.world.now) (task_of c.args.who.now) (location_of c.args.here.location)
    (last_of c.args.last) c.args.slash
    (sym c.is_no_word.ensures ∙ c.if-is_no_word.false) _ c.in_err-directory.ensures.value)

pub returns-in_err-object-clause-value : goal.returns-in_err-object-clause-value
returns-in_err-object-clause-value g c =
    let p = err_from_is_err_and c.from_residual-in_err-object.result c.from_residual-in_err-object.ensures.1 in
    rw (p.1, p.2) (placed-searched (g.L.Look.looks c.args.world.now) (task_of c.args.who.now) (location_of c.args.here.location)
    (last_of c.args.last) c.args.slash
    (sym c.is_no_word.ensures ∙ c.if-is_no_word.false) (Err _) c.in_ok-directory.ensures.value c.in_err-object.ensures)

pub returns-clause-value : goal.returns-clause-value
returns-clause-value g c =
    placed-searched (g.L.Look.looks c.args.world.now) (task_of c.args.who.now) (location_of c.args.here.location)
    (last_of c.args.last) c.args.slash (sym c.is_no_word.ensures ∙ c.if-is_no_word.false)
    (Ok (option_map location_of c.in_ok-object.object)) c.in_ok-directory.ensures.value c.in_ok-object.ensures
