use Rattle.std.proofs.Common.{rules, ◌∙◌}
use Rattle.vt_spec.proofs.Common.{YieldsList-from_slice, any_from_yields_List, is_overlay_at}
use Rattle.vt_location.specs.Locations.{location_of}
use Rattle.vt_layers.specs.declared.walks.Lower.{Lower}
use Rattle.vt_layers.proofs.RuleLemmas.{list_any-map}
use Rattle.vt_layers.proofs.rules.have_overlay.Goals as goal

pub returns : goal.returns
returns g c =
    let looks = g.L.Look.looks c.args.world.now in
    any_from_yields_List (λ (lower : Lower). is_overlay_at looks (location_of lower.at))
    _ _ _ c.any.ensures.ran (YieldsList-from_slice c.args.lowers.now cc) (λ x b q k. search rules)
    ∙ list_any-map (is_overlay_at looks) (λ (lower : Lower). location_of lower.at) c.args.lowers.now
