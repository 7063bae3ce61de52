use Rattle.vt_laws_mounts.proofs.mounts.MountsAttached.{move_keeps_mounts, move_leaves_mounts, moved_mounts_show}
use Rattle.vt_laws_mounts.proofs.mounts.a_move_leaves_the_other_mounts.Goals as goal

pub returns-clause-kept : goal.returns-clause-kept
returns-clause-kept c = move_keeps_mounts

pub returns-clause-left : goal.returns-clause-left
returns-clause-left c = move_leaves_mounts

pub returns-clause-moved : goal.returns-clause-moved
returns-clause-moved c = moved_mounts_show
