use Rattle.std.proofs.Common.{sym, ◌∙◌}
use Rattle.vt_spec.proofs.Common.{err_from_is_err_and}
use Rattle.vt_location.specs.Locations.{location_of}
use Rattle.vt_tasks.specs.TaskValue.{task_of}
use Rattle.vt_rules.proofs.RenameLemmas.{kind_refused, layers_left, rights_refused, way_refused}
use Rattle.vt_rules.proofs.removing.may_rename.Goals as goal

pub returns-in_err-may_replace : goal.returns-in_err-may_replace
returns-in_err-may_replace g c old new from to =
    let p = err_from_is_err_and c.from_residual.result c.from_residual.ensures.1 in
    rw (p.1, p.2) (sym (kind_refused (g.L.Look.looks c.args.world.now) (task_of c.args.who.now)
    old new (location_of c.args.from.now.object) _ (c.in_err-may_replace.ensures new to)))

pub returns-in_err-may_cross : goal.returns-in_err-may_cross
returns-in_err-may_cross g c old new from to =
    let p = err_from_is_err_and c.from_residual-in_err-may_cross.result c.from_residual-in_err-may_cross.ensures.1 in
    rw (p.1, p.2) (sym (way_refused (g.L.Look.looks c.args.world.now) (task_of c.args.who.now)
    old new (location_of c.args.from.now.object) _
    (c.in_ok-may_replace.ensures new to) (c.in_err-may_cross.ensures.rules old new from to)))

pub returns-in_err-may_change_both : goal.returns-in_err-may_change_both
returns-in_err-may_change_both g c old new from to =
    let p = err_from_is_err_and c.from_residual-in_err-may_change_both.result
    c.from_residual-in_err-may_change_both.ensures.1 in
    rw (p.1, p.2) (sym (rights_refused (g.L.Look.looks c.args.world.now) (task_of c.args.who.now)
    old new (location_of c.args.from.now.object) _
    (c.in_ok-may_replace.ensures new to) (c.in_ok-may_cross.ensures.rules old new from to)
    (c.in_err-may_change_both.ensures old new from to)))

pub returns : goal.returns
returns g c old new from to = c.may_layers_change.ensures old new from to
    ∙ sym (layers_left (g.L.Look.looks c.args.world.now) (task_of c.args.who.now)
    old new (location_of c.args.from.now.object)
    (c.in_ok-may_replace.ensures new to) (c.in_ok-may_cross.ensures.rules old new from to)
    (c.in_ok-may_change_both.ensures old new from to))
