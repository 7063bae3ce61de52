use Rattle.std.proofs.Common.{◌≡◌, map, take}
use Rattle.vt_location.specs.MountValue.{propagation_of}
use Rattle.vt_ns.proofs.Common.{counted, retyped}
use Rattle.vt_ns.specs.Retyped.{set_if}
use Rattle.vt_ns.proofs.retyping.set_all.Given as goal

abbrev pub invariant-loop-id : goal.invariant-loop-id
invariant-loop-id l = l.mounts ≡ map (retyped (set_if (map (λ id. counted id.count) (take l.id-index l.ids))
    (propagation_of l.kind))) l.fn.mounts
