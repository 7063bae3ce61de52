use Rattle.std.proofs.Common.{◌≡◌, ℕ, map, take, true}
use Rattle.vt_spec.proofs.Common.{folded}
use Rattle.vt_group.specs.ByNumber.{IsAscending, has_room}
use Rattle.vt_group.specs.Steps.{numbered_master}
use Rattle.vt_group.specs.Together.{new_group, with_master_of}
use Rattle.vt_group.proofs.additions.set_masters.Given as goal

abbrev pub invariant-loop-group : goal.invariant-loop-group
invariant-loop-group l = (map numbered_master l.above.entries
    ≡ folded with_master_of (map numbered_master l.fn.above.entries) (map new_group (take l.group-index l.new)))
    × ((other : ℕ) → has_room l.fn.above other ≡ true → has_room l.above other ≡ true)
    × (IsAscending l.fn.above → IsAscending l.above)
