use Rattle.vt_mounting.proofs.attach.NumbersByParts.{binds_keep_to_numbers, moves_keep_to_numbers, new_mounts_keep_to_numbers, unshares_keep_to_numbers}
use Rattle.vt_mounting.proofs.attach.laws.attachments_keep_to_their_numbers.Goals as goal

pub returns-clause-binds : goal.returns-clause-binds
returns-clause-binds c = binds_keep_to_numbers

pub returns-clause-moves : goal.returns-clause-moves
returns-clause-moves c = moves_keep_to_numbers

pub returns-clause-new_mounts : goal.returns-clause-new_mounts
returns-clause-new_mounts c = new_mounts_keep_to_numbers

pub returns-clause-unshares : goal.returns-clause-unshares
returns-clause-unshares c = unshares_keep_to_numbers
