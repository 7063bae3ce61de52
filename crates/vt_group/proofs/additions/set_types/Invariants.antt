use Rattle.std.proofs.Common.{◌≡◌, map, take}
use Rattle.vt_spec.proofs.Common.{folded}
use Rattle.vt_group.specs.Additions.{typed_pair}
use Rattle.vt_group.specs.ByNumber.{IsAscending}
use Rattle.vt_group.specs.Steps.{numbered_peer}
use Rattle.vt_group.specs.Together.{with_type_of}
use Rattle.vt_group.specs.Types.{KeepsRoom}
use Rattle.vt_group.proofs.additions.set_types.Given as goal

abbrev pub invariant-loop-pair : goal.invariant-loop-pair
invariant-loop-pair l = (map numbered_peer l.types.kinds.entries
    ≡ folded with_type_of (map numbered_peer l.fn.types.kinds.entries) (map typed_pair (take l.pair-index l.mounts)))
    × KeepsRoom l.fn.types l.types × (IsAscending l.fn.types.kinds → IsAscending l.types.kinds)
