use Rattle.std.proofs.Common.{◌≡◌, map, take}
use Rattle.vt_ns.proofs.Common.{layer_kept, layer_of}
use Rattle.vt_ns.proofs.mounting_overlays.layers_kept.Given as goal

abbrev pub invariant-loop-lower : goal.invariant-loop-lower
invariant-loop-lower l = l.kept.items ≡ map (λ lower. layer_kept (layer_of lower)) (take l.lower-index l.lowers)
