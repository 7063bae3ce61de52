use Rattle.vt_laws_sealed.proofs.part.locks.LockedTrees.{wholly_locked_is_locked, others_change_what_is_not_used, others_changes_leave_the_part}
use Rattle.vt_laws_sealed.proofs.part.locks.others_change_no_file_of_a_sealed_set.Goals as goal

pub returns-clause-locked : goal.returns-clause-locked
returns-clause-locked c = wholly_locked_is_locked

pub returns-clause-unused : goal.returns-clause-unused
returns-clause-unused c = others_change_what_is_not_used

pub returns-clause-part : goal.returns-clause-part
returns-clause-part c = others_changes_leave_the_part
