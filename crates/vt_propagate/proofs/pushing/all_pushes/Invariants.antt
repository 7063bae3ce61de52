use Rattle.std.proofs.Common.{drop, length, map, ◌++◌, ◌*◌, ◌≡◌}
use Rattle.vt_location.specs.Locations.{location_of}
use Rattle.vt_location.specs.MountValue.{mount_of}
use Rattle.vt_mount.specs.MountsValue.{mounts_in}
use Rattle.vt_propagate.specs.Falling.{point_of}
use Rattle.vt_propagate.specs.Pushing.{leaver, pushes_from}
use Rattle.vt_propagate.proofs.pushing.all_pushes.Given as goal

abbrev pub invariant-loop-part : goal.invariant-loop-part
invariant-loop-part l = record {
  rest : length l.rest ≡ length (drop l.part-index l.graft.parts.now) * length l.graft.tree.now;
  so_far : map point_of l.points.items
      ++ pushes_from (mounts_in l.mounts) (leaver l.graft) (location_of l.graft.place) (length l.graft.tree.now)
      (map mount_of (drop l.part-index l.graft.parts.now)) (map mount_of l.rest)
      ≡ pushes_from (mounts_in l.mounts) (leaver l.graft) (location_of l.graft.place) (length l.graft.tree.now)
      (map mount_of l.graft.parts.now) (map mount_of l.fn.copies);
}
