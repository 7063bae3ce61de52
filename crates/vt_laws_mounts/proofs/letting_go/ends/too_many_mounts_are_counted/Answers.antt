use Rattle.vt_laws_mounts.proofs.letting_go.ends.NamespacesEnd.{added_mounts_count, added_mounts_count_in_no_other, added_mounts_count_in_their_own, too_many_is_of_one, too_many_is_of_some}
use Rattle.vt_laws_mounts.proofs.letting_go.ends.too_many_mounts_are_counted.Goals as goal

pub returns-clause-added : goal.returns-clause-added
returns-clause-added c = added_mounts_count

pub returns-clause-no_other : goal.returns-clause-no_other
returns-clause-no_other c = added_mounts_count_in_no_other

pub returns-clause-their_own : goal.returns-clause-their_own
returns-clause-their_own c = added_mounts_count_in_their_own

pub returns-clause-one : goal.returns-clause-one
returns-clause-one c = too_many_is_of_one

pub returns-clause-several : goal.returns-clause-several
returns-clause-several c = too_many_is_of_some
