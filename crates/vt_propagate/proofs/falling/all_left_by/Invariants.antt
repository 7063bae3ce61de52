use Rattle.std.proofs.Common.{◌≡◌, ◌++◌, drop, flat_map, map}
use Rattle.vt_mount.specs.MountsValue.{mounts_in}
use Rattle.vt_propagate.specs.Falling.{all_points_left, point_of, points_left_on}
use Rattle.vt_propagate.proofs.Found.{counts}
use Rattle.vt_propagate.proofs.falling.all_left_by.Given as goal

abbrev pub invariant-loop-id : goal.invariant-loop-id
invariant-loop-id l =
    map point_of l.points.items ++ flat_map (points_left_on (mounts_in l.mounts) (counts l.gone.ids.now)) (counts
    (drop l.id-index l.gone.ids.now)) ≡ all_points_left (mounts_in l.mounts) (counts l.gone.ids.now)
