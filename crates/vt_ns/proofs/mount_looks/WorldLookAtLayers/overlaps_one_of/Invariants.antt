use Rattle.std.proofs.Common.{◌≡◌, drop, nat_eq}
use Rattle.vt_spec.proofs.Common.{layer_at, overlaps_one_of}
use Rattle.vt_layers.proofs.RuleLemmas.{layers_at}
use Rattle.vt_ns.proofs.Common.{location_of, looks_of_value, world_of}
use Rattle.vt_ns.proofs.mount_looks.WorldLookAtLayers.overlaps_one_of.Given as goal

-- one of those that are left is overlapped just if one of all is
abbrev pub invariant-loop-other : goal.invariant-loop-other
invariant-loop-other l = overlaps_one_of nat_eq (world_of l.self) (layers_at (looks_of_value l.self)
    (drop l.other-index l.others)) (layer_at (looks_of_value l.self) (location_of l.at))
    ≡ overlaps_one_of nat_eq (world_of l.self) (layers_at (looks_of_value l.self) l.others)
    (layer_at (looks_of_value l.self) (location_of l.at))
