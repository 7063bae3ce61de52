use Rattle.std.proofs.Common.{◌≡◌, ◌++◌, map, drop, flat_map}
use Rattle.vt_ns.proofs.Common.{counted, mounts_in, tree_numbers}
use Rattle.vt_ns.proofs.removing.trees_on.Given as goal

-- what is collected, and then the trees of the other mounts, are all trees
abbrev pub invariant-loop-id : goal.invariant-loop-id
invariant-loop-id l = map (λ id. counted id.count) l.all.items
    ++ flat_map (tree_numbers (mounts_in l.mounts)) (map (λ id. counted id.count) (drop l.id-index l.id-items))
    ≡ flat_map (tree_numbers (mounts_in l.mounts)) (map (λ id. counted id.count) l.id-items)
