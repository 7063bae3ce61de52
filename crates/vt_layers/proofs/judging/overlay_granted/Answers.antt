use Rattle.std.proofs.Common.{ap, map, ◌∙◌}
use Rattle.vt_spec.proofs.Common.{ToMountOverlay, layer_at}
use Rattle.vt_cred.specs.MountFlags.{flags_of}
use Rattle.vt_location.specs.Locations.{location_of}
use Rattle.vt_layers.specs.declared.walks.Lower.{Lower}
use Rattle.vt_layers.proofs.GrantLemmas.{granted_overlay}
use Rattle.vt_layers.proofs.judging.overlay_granted.Goals as goal

pub returns : goal.returns
returns g c task =
    let looks = g.L.Look.looks c.args.world.now in
    ap (λ overlay. ToMountOverlay (location_of c.args.destination) overlay (flags_of c.args.flags))
    (granted_overlay looks task c.args.layers.now _ _ _
    (c.in_ok-lowers.ensures ∙ ap (map (λ (lower : Lower). layer_at looks (location_of lower.at))) c.as_slice.ensures.value)
    c.directory_granted-upper.ensures c.directory_granted-work.ensures)
