use Rattle.std.proofs.Common.{drop, map, ◌≡◌}
use Rattle.vt_ns.proofs.Common.{counted, mounts_in}
use Rattle.vt_ns.specs.Unmounting.{are_ungrouped}
use Rattle.vt_ns.proofs.unmounting.are_in_no_group.Given as goal

-- all are in no group if the others are
abbrev pub invariant-loop-id : goal.invariant-loop-id
invariant-loop-id l = are_ungrouped (mounts_in l.mounts) (map (λ id. counted id.count) (drop l.id-index l.ids))
    ≡ are_ungrouped (mounts_in l.mounts) (map (λ id. counted id.count) l.ids)
