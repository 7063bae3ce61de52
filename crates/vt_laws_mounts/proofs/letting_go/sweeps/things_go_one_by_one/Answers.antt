use Rattle.vt_laws_mounts.proofs.letting_go.sweeps.Inodes.{all_goes_one_by_one, inodes_go_one_by_one}
use Rattle.vt_laws_mounts.proofs.letting_go.sweeps.OneByOne.{filesystems_go_one_by_one, groups_go_one_by_one, mounts_go_one_by_one}
use Rattle.vt_laws_mounts.proofs.letting_go.sweeps.things_go_one_by_one.Goals as goal

pub returns-clause-mounts : goal.returns-clause-mounts
returns-clause-mounts c = mounts_go_one_by_one

pub returns-clause-filesystems : goal.returns-clause-filesystems
returns-clause-filesystems c = filesystems_go_one_by_one

pub returns-clause-inodes : goal.returns-clause-inodes
returns-clause-inodes c = inodes_go_one_by_one

pub returns-clause-groups : goal.returns-clause-groups
returns-clause-groups c = groups_go_one_by_one

pub returns-clause-all : goal.returns-clause-all
returns-clause-all c = all_goes_one_by_one
