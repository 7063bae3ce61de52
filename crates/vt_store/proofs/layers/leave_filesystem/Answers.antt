use Rattle.vt_spec.proofs.Common.{common_steps}
use Rattle.std.proofs.Common.{arith}
use Rattle.vt_store.proofs.LayersCounted.{filesystem_goes, filesystem_stays}
use Rattle.vt_store.proofs.layers.leave_filesystem.Goals as goal

pub returns-then-mounts-eq0 : goal.returns-then-mounts-eq0
returns-then-mounts-eq0 c = grind (arith, common_steps, filesystem_goes)

pub returns-else-mounts-eq0 : goal.returns-else-mounts-eq0
returns-else-mounts-eq0 c = filesystem_stays c.args.id.count c.args.plain.now c.release_mount.new.self c.mounts.result
    c.release_mount.ensures c.mounts.ensures c.if-mounts-eq0.false
