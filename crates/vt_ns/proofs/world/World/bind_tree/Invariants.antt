use Rattle.std.proofs.Common.{length, map, nat_eq, true, ◌++◌, ◌≡◌}
use Rattle.vt_spec.proofs.Common.{bind_tree}
use Rattle.vt_ns.proofs.Common.{counts, location_of, mounts_in, world_of}
use Rattle.vt_ns.specs.Trees.{bindable_to_come}
use Rattle.vt_ns.proofs.world.World.bind_tree.Given as goal

-- what is told, and then what is still to come, is the tree
abbrev pub invariant-loop-next : goal.invariant-loop-next
invariant-loop-next l = counts l.tree.items ++ bindable_to_come (mounts_in l.self.mounts) l.waiting.items
    ≡ map (λ mount. mount.number) (bind_tree nat_eq (world_of l.self) (location_of l.fn.source) true)

abbrev pub decreases-loop-next : goal.decreases-loop-next
decreases-loop-next l = length (bindable_to_come (mounts_in l.self.mounts) l.waiting.items)
