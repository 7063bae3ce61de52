use Rattle.std.proofs.Common.{◌≡◌, All, take}
use Rattle.vt_group.specs.Additions.{FitsType}
use Rattle.vt_group.proofs.additions.reserve_types.Given as goal

abbrev pub invariant-loop-pair : goal.invariant-loop-pair
invariant-loop-pair l =
    (l.types.kinds.entries ≡ l.fn.types.kinds.entries) × All (FitsType l.types) (take l.pair-index l.mounts)
