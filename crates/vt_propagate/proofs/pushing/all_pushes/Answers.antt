use Rattle.std.proofs.Common.{length, map}
use Rattle.vt_location.specs.Locations.{location_of}
use Rattle.vt_mount.specs.MountsValue.{mounts_in}
use Rattle.vt_propagate.specs.Falling.{point_of}
use Rattle.vt_propagate.specs.Pushing.{leaver}
use Rattle.vt_propagate.proofs.Pushed.{push_more, rest_more}
use Rattle.vt_propagate.proofs.pushing.all_pushes.Goals as goal

pub loop-part-preserved : goal.loop-part-preserved
loop-part-preserved c =
    let graft = c.args.graft.now in
    record {
      rest = rest_more graft.parts.now c.loop-part.part-index c.loop-part-test.true (length graft.tree.now)
          (length c.split_at.result.1.now) c.loop-part.invariant.rest c.split_at.ensures.back_len;
      so_far = push_more (mounts_in c.args.mounts.now) (leaver graft) (location_of graft.place) (length graft.tree.now)
          graft.parts.now
          c.loop-part.part-index _ c.loop-part-test.true c.loop-part.rest.now
          c.split_at.ensures.front c.split_at.ensures.back (map point_of c.loop-part.points.items)
          c.in_ok-add_push.ensures c.loop-part.invariant.so_far;
    }
