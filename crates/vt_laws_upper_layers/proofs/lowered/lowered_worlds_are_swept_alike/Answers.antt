use Rattle.vt_laws_upper_layers.proofs.lowered.Swept.{filesystems_go, inodes_go, mounts_go, swept_alike}
use Rattle.vt_laws_upper_layers.proofs.lowered.lowered_worlds_are_swept_alike.Goals as goal

pub returns-clause-mounts : goal.returns-clause-mounts
returns-clause-mounts c = mounts_go

pub returns-clause-filesystems : goal.returns-clause-filesystems
returns-clause-filesystems c = filesystems_go

pub returns-clause-inodes : goal.returns-clause-inodes
returns-clause-inodes c = inodes_go

pub returns-clause-whole : goal.returns-clause-whole
returns-clause-whole c = swept_alike
