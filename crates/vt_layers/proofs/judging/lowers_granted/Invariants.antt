use Rattle.std.proofs.Common.{◌≡◌, map, take}
use Rattle.vt_spec.proofs.Common.{layer_at}
use Rattle.vt_location.specs.Locations.{location_of}
use Rattle.vt_permits.specs.GrantValue.{layer_of}
use Rattle.vt_layers.proofs.judging.lowers_granted.Given as goal

abbrev pub invariant-loop-lower : goal.invariant-loop-lower
invariant-loop-lower g l = map layer_of l.granted.items
    ≡ map (λ lower. layer_at (g.L.Look.looks l.world) (location_of lower.at)) (take l.lower-index l.lowers)
