use Rattle.vt_laws_worlds.proofs.seen.swept.Inodes.{inodes_may_go_before}
use Rattle.vt_laws_worlds.proofs.seen.swept.Wholes.{filesystems_may_go_before, groups_may_go_before, mounts_may_go_before}
use Rattle.vt_laws_worlds.proofs.seen.swept.what_nothing_uses_may_go_before.Goals as goal

pub returns-clause-mounts : goal.returns-clause-mounts
returns-clause-mounts c = mounts_may_go_before

pub returns-clause-filesystems : goal.returns-clause-filesystems
returns-clause-filesystems c = filesystems_may_go_before

pub returns-clause-inodes : goal.returns-clause-inodes
returns-clause-inodes c = inodes_may_go_before

pub returns-clause-groups : goal.returns-clause-groups
returns-clause-groups c = groups_may_go_before
