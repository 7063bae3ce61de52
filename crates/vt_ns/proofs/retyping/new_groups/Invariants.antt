use Rattle.std.proofs.Common.{◌≡◌, ◌++◌, ◌+◌, drop, map}
use Rattle.vt_group.specs.Together.{pair_of}
use Rattle.vt_ns.proofs.Common.{counted}
use Rattle.vt_ns.specs.Retyped.{with_counts}
use Rattle.vt_ns.proofs.retyping.new_groups.Given as goal

-- what is numbered, and then what is still to come, is what is wanted
abbrev pub invariant-loop-index : goal.invariant-loop-index
invariant-loop-index l =
    map pair_of l.named.items ++ with_counts (l.next + l.index) (map (λ id. counted id.count) (drop l.index l.ids))
    ≡ with_counts l.next (map (λ id. counted id.count) l.ids)
