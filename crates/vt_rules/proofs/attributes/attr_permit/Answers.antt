use Rattle.std.proofs.Common.{Ok}
use Rattle.vt_spec.proofs.Common.{SetAttr, ToChange, attr_rules, err_from_is_err_and, unless-let_through}
use Rattle.vt_location.specs.Locations.{location_of}
use Rattle.vt_rules.proofs.Refusals.{unless-stopped}
use Rattle.vt_rules.proofs.attributes.attr_permit.Goals as goal

pub returns-in_err-may_set_attr : goal.returns-in_err-may_set_attr
returns-in_err-may_set_attr g c =
    let object = location_of c.args.object in
    let p = err_from_is_err_and c.from_residual.result c.from_residual.ensures.1 in
    rw (p.1, p.2) (unless-stopped (attr_rules (g.L.Look.looks c.args.world.now) object c.args.allowed c.args.attr)
    (Ok (ToChange object (SetAttr object.node c.args.attr))) _ c.in_err-may_set_attr.ensures)

pub returns : goal.returns
returns g c =
    let object = location_of c.args.object in
    unless-let_through (attr_rules (g.L.Look.looks c.args.world.now) object c.args.allowed c.args.attr)
    (Ok (ToChange object (SetAttr object.node c.args.attr))) c.in_ok-may_set_attr.ensures
