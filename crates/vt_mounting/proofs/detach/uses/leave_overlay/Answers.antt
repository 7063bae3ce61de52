use Rattle.vt_mounting.proofs.detach.OverlaysListed.{left_released, left_removed}
use Rattle.vt_mounting.proofs.detach.StoresLeft.{overlay_goes, overlay_stays}
use Rattle.vt_mounting.proofs.detach.uses.leave_overlay.Goals as goal

pub returns-then-mounts-eq0-clause-left : goal.returns-then-mounts-eq0-clause-left
returns-then-mounts-eq0-clause-left c =
    overlay_goes c.args.id.count c.args.store.now c.release_mount.ensures c.mounts.ensures c.if-mounts-eq0.true
    c.remove_overlay.new.self c.remove_overlay.ensures.overlays c.remove_overlay.ensures.left

pub returns-else-mounts-eq0-clause-left : goal.returns-else-mounts-eq0-clause-left
returns-else-mounts-eq0-clause-left c =
    overlay_stays c.args.id.count c.args.store.now c.release_mount.ensures c.mounts.ensures c.if-mounts-eq0.false

pub returns-then-mounts-eq0-clause-overlays : goal.returns-then-mounts-eq0-clause-overlays
returns-then-mounts-eq0-clause-overlays c =
    left_removed c.args.id.count c.args.store.now c.remove_overlay.new.self c.release_mount.ensures
    c.remove_overlay.ensures.overlays

pub returns-else-mounts-eq0-clause-overlays : goal.returns-else-mounts-eq0-clause-overlays
returns-else-mounts-eq0-clause-overlays c =
    left_released c.args.id.count c.args.store.now c.release_mount.new.self c.release_mount.ensures
