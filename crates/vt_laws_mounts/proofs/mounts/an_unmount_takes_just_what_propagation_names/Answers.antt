use Rattle.vt_laws_mounts.proofs.ends.Unmounting.{groups_keep_their_masters, root_mounts_stay, slaves_are_inherited, unmount_is_of_mounts, unmount_keeps_the_order, what_covered_falls, what_goes_is_detached, what_stays_keeps, what_stays_keeps_its_place, what_stays_keeps_its_type}
use Rattle.vt_laws_mounts.proofs.ends.UnmountingEnds.{the_mount_itself_goes}
use Rattle.vt_laws_mounts.proofs.ends.UnmountingGoes.{what_goes_is_named}
use Rattle.vt_laws_mounts.proofs.mounts.an_unmount_takes_just_what_propagation_names.Goals as goal

pub returns-clause-named : goal.returns-clause-named
returns-clause-named c = what_goes_is_named

pub returns-clause-order : goal.returns-clause-order
returns-clause-order c = unmount_keeps_the_order

pub returns-clause-gone : goal.returns-clause-gone
returns-clause-gone c = what_goes_is_detached

pub returns-clause-kept : goal.returns-clause-kept
returns-clause-kept c = what_stays_keeps

pub returns-clause-place : goal.returns-clause-place
returns-clause-place c = what_stays_keeps_its_place

pub returns-clause-root_mounts : goal.returns-clause-root_mounts
returns-clause-root_mounts c = root_mounts_stay

pub returns-clause-covered : goal.returns-clause-covered
returns-clause-covered c = what_covered_falls

pub returns-clause-kind : goal.returns-clause-kind
returns-clause-kind c = what_stays_keeps_its_type

pub returns-clause-slaves : goal.returns-clause-slaves
returns-clause-slaves c = slaves_are_inherited

pub returns-clause-masters : goal.returns-clause-masters
returns-clause-masters c = groups_keep_their_masters

pub returns-clause-itself : goal.returns-clause-itself
returns-clause-itself c = the_mount_itself_goes

pub returns-clause-others : goal.returns-clause-others
returns-clause-others c = unmount_is_of_mounts
