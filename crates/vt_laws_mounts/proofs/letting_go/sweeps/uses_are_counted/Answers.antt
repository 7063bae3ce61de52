use Rattle.vt_laws_mounts.proofs.letting_go.sweeps.UsesCounted.{located_while_counted, members_while_counted, mounted_while_counted, one_mount_less, one_use_less, used_while_counted}
use Rattle.vt_laws_mounts.proofs.letting_go.sweeps.uses_are_counted.Goals as goal

pub returns-clause-located : goal.returns-clause-located
returns-clause-located c = located_while_counted

pub returns-clause-mounted : goal.returns-clause-mounted
returns-clause-mounted c = mounted_while_counted

pub returns-clause-inodes : goal.returns-clause-inodes
returns-clause-inodes c = used_while_counted

pub returns-clause-members : goal.returns-clause-members
returns-clause-members c = members_while_counted

pub returns-clause-location : goal.returns-clause-location
returns-clause-location c = one_use_less

pub returns-clause-mount : goal.returns-clause-mount
returns-clause-mount c = one_mount_less
