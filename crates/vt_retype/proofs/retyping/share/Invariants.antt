use Rattle.std.proofs.Common.{◌≡◌, map, take}
use Rattle.vt_location.specs.Numbers.{counted}
use Rattle.vt_retype.specs.Retyping.{shared_by}
use Rattle.vt_retype.proofs.retyping.share.Given as goal

abbrev pub invariant-loop-pair : goal.invariant-loop-pair
invariant-loop-pair l =
    l.mounts ≡ map (shared_by l.groups (map (λ pair. counted pair.0.count) (take l.pair-index l.named))) l.fn.mounts
