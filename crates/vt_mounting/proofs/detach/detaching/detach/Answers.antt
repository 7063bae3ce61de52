use Rattle.std.proofs.Common.{ap, map, ◌∙◌}
use Rattle.vt_mounting.proofs.Common.{counted}
use Rattle.vt_mounting.specs.Detach.Stored.{kept, merged_of}
use Rattle.vt_mounting.specs.Detach.Uses.{root_left}
use Rattle.vt_mounting.proofs.detach.LeftMounts.{leaves, left_beside}
use Rattle.vt_mounting.proofs.detach.OverlaysListed.{left_itself, left_twice}
use Rattle.vt_mounting.proofs.detach.detaching.detach.Goals as goal

pub returns-clause-left : goal.returns-clause-left
returns-clause-left c =
    let point = c.leave-left.result.point in
    let root = c.leave-left.result.root in
    left_beside c.leave-left.new.self root c.unpin_point.new.store c.leave_root_left.new.store
    c.leave_root_left.ensures.left
    ∙ ap (root_left root) (λ i. record {
      mounts = c.leave-left.ensures.rest i;
      filesystems = c.unpin_point.ensures.uses i;
      overlays = map merged_of (c.unpin_point.ensures.overlays i);
    })
    ∙ leaves (counted c.args.id.count) (kept c.args.mounts.now c.args.store.now) point root
    c.leave-left.ensures.filesystem c.leave-left.ensures.root c.leave-left.ensures.unused

pub returns-clause-overlays : goal.returns-clause-overlays
returns-clause-overlays c =
    let old = c.args.store.now.overlays in
    let middle = c.unpin_point.new.store.overlays in
    left_twice old middle c.leave_root_left.new.store.overlays (left_itself old middle c.unpin_point.ensures.overlays)
    c.leave_root_left.ensures.overlays
