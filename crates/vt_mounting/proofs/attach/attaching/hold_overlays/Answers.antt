use Rattle.std.proofs.Common.{arith, map}
use Rattle.vt_mounting.specs.Detach.Stored.{merged_of}
use Rattle.vt_mounting.proofs.attach.OverlayCounts.{merged_room_at}
use Rattle.vt_mounting.proofs.attach.attaching.hold_overlays.Goals as goal

pub hold_overlay-requires : goal.hold_overlay-requires
hold_overlay-requires c =
    merged_room_at c.args.new.now (map merged_of c.args.store.now.overlays) c.loop-mount.mount-index _
    c.loop-mount-test.true (omega arith) c.requires c.loop-mount.invariant.1
