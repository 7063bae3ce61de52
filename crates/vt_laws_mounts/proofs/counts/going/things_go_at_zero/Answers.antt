use Rattle.vt_laws_mounts.proofs.counts.going.Gone.{filesystem_goes_at_zero, mount_goes_at_zero, mount_takes_its_count}
use Rattle.vt_laws_mounts.proofs.counts.going.things_go_at_zero.Goals as goal

pub returns-clause-mount : goal.returns-clause-mount
returns-clause-mount c = mount_goes_at_zero

pub returns-clause-filesystem : goal.returns-clause-filesystem
returns-clause-filesystem c = filesystem_goes_at_zero

pub returns-clause-count : goal.returns-clause-count
returns-clause-count c = mount_takes_its_count
