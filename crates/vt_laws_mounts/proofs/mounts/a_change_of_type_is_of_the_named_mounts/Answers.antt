use Rattle.vt_laws_mounts.proofs.mounts.MountsRetyped.{alone_is_private, type_is_all_that_changes, type_is_of_the_named, type_is_taken, types_are_of_mounts}
use Rattle.vt_laws_mounts.proofs.mounts.a_change_of_type_is_of_the_named_mounts.Goals as goal

pub returns-clause-alone : goal.returns-clause-alone
returns-clause-alone c = type_is_all_that_changes

pub returns-clause-others : goal.returns-clause-others
returns-clause-others c = type_is_of_the_named

pub returns-clause-taken : goal.returns-clause-taken
returns-clause-taken c = type_is_taken

pub returns-clause-last_member : goal.returns-clause-last_member
returns-clause-last_member c = alone_is_private

pub returns-clause-rest : goal.returns-clause-rest
returns-clause-rest c = types_are_of_mounts
