use Rattle.vt_laws_mounts.proofs.propagation.PropagationAttaching.{copies_are_new, each_is_copied, first_stands_on_its_part, others_stand_on_copies}
use Rattle.vt_laws_mounts.proofs.propagation.PropagationPremises.{binds_can, moves_can, new_mounts_can}
use Rattle.vt_laws_mounts.proofs.propagation.copies_take_their_mount_points.Goals as goal

pub returns-clause-binds : goal.returns-clause-binds
returns-clause-binds c = binds_can

pub returns-clause-new_mounts : goal.returns-clause-new_mounts
returns-clause-new_mounts c = new_mounts_can

pub returns-clause-moves : goal.returns-clause-moves
returns-clause-moves c = moves_can

pub returns-clause-copied : goal.returns-clause-copied
returns-clause-copied c = each_is_copied

pub returns-clause-new : goal.returns-clause-new
returns-clause-new c = copies_are_new

pub returns-clause-first : goal.returns-clause-first
returns-clause-first c = first_stands_on_its_part

pub returns-clause-others : goal.returns-clause-others
returns-clause-others c = others_stand_on_copies
