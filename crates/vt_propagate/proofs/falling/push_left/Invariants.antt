use Rattle.std.proofs.Common.{◌≡◌, ◌++◌, drop, map, filter_map}
use Rattle.vt_mount.specs.MountsValue.{mounts_in}
use Rattle.vt_propagate.specs.Falling.{point_left_of, point_of}
use Rattle.vt_propagate.proofs.Found.{counts}
use Rattle.vt_propagate.proofs.falling.push_left.Given as goal

abbrev pub invariant-loop-child : goal.invariant-loop-child
invariant-loop-child l =
    map point_of l.points.items ++ filter_map (point_left_of (mounts_in l.mounts) (counts l.gone.ids.now)) (counts
    (drop l.child-index l.children))
    ≡ map point_of l.fn.points.items ++ filter_map (point_left_of (mounts_in l.mounts) (counts l.gone.ids.now))
    (counts l.children)
