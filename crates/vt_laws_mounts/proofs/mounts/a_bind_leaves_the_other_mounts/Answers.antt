use Rattle.vt_laws_mounts.proofs.mounts.MountsAttached.{attach_keeps_mounts, attach_leaves_mounts, new_mounts_follow}
use Rattle.vt_laws_mounts.proofs.mounts.a_bind_leaves_the_other_mounts.Goals as goal

pub returns-clause-order : goal.returns-clause-order
returns-clause-order c = new_mounts_follow

pub returns-clause-kept : goal.returns-clause-kept
returns-clause-kept c = attach_keeps_mounts

pub returns-clause-left : goal.returns-clause-left
returns-clause-left c = attach_leaves_mounts
