use Rattle.std.proofs.Common.{◌≡◌, ◌++◌, flat_map, length}
use Rattle.vt_group.specs.Sets.{kept_in}
use Rattle.vt_group.proofs.listed.ListedIterator.next.Given as goal

abbrev pub invariant-loop-one : goal.invariant-loop-one
invariant-loop-one g l =
    l.fn.self ≡ l.self-inside.here.now ++ flat_map (λ name. kept_in name l.self-inside.sets.now) l.self-inside.names

abbrev pub decreases-loop-one : goal.decreases-loop-one
decreases-loop-one g l = length l.self-inside.names
