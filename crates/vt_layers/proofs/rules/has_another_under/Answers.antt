use Rattle.std.proofs.Common.{nat_eq, rules, ◌∙◌}
use Rattle.vt_spec.proofs.Common.{YieldsList-from_slice, any_from_yields_List, layer_at, one_under_another}
use Rattle.vt_location.specs.Locations.{location_of}
use Rattle.vt_layers.specs.declared.walks.Lower.{Lower}
use Rattle.vt_layers.proofs.RuleLemmas.{any_lower}
use Rattle.vt_layers.proofs.rules.has_another_under.Goals as goal

pub returns : goal.returns
returns g c =
    let looks = g.L.Look.looks c.args.world.now in
    let one = layer_at looks (location_of c.args.one) in
    any_from_yields_List (λ (other : Lower). one_under_another nat_eq looks one (layer_at looks (location_of other.at)))
    _ _ _ c.any.ensures.ran (YieldsList-from_slice c.args.others.now cc) (λ x b q k. search rules)
    ∙ any_lower looks (one_under_another nat_eq looks one) c.args.others.now
