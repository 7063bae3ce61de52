use Rattle.vt_laws_mounts.proofs.attached.AttachedNowhere.{binds_keep_nowhere, moves_keep_nowhere, new_mounts_keep_nowhere}
use Rattle.vt_laws_mounts.proofs.attached.attaching_keeps_mounts_nowhere.Goals as goal

pub returns-clause-bind : goal.returns-clause-bind
returns-clause-bind c = binds_keep_nowhere

pub returns-clause-new_mount : goal.returns-clause-new_mount
returns-clause-new_mount c = new_mounts_keep_nowhere

pub returns-clause-moves : goal.returns-clause-moves
returns-clause-moves c = moves_keep_nowhere
