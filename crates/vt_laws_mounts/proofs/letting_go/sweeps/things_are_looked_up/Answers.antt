use Rattle.vt_laws_mounts.proofs.letting_go.sweeps.LookedUp.{filesystem_is_looked_up, group_is_looked_up, inode_is_looked_up, mount_is_looked_up}
use Rattle.vt_laws_mounts.proofs.letting_go.sweeps.things_are_looked_up.Goals as goal

pub returns-clause-mount : goal.returns-clause-mount
returns-clause-mount c = mount_is_looked_up

pub returns-clause-filesystem : goal.returns-clause-filesystem
returns-clause-filesystem c = filesystem_is_looked_up

pub returns-clause-inode : goal.returns-clause-inode
returns-clause-inode c = inode_is_looked_up

pub returns-clause-group : goal.returns-clause-group
returns-clause-group c = group_is_looked_up
