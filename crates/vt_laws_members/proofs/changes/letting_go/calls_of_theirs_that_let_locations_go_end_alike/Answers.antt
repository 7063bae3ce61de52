use Rattle.vt_laws_members.proofs.changes.letting_go.EnterLast.{setns_ends_alike}
use Rattle.vt_laws_members.proofs.changes.Common.{chdirs_end_alike, chroots_end_alike, closes_end_alike, exits_end_alike, umounts_end_alike}
use Rattle.vt_laws_members.proofs.changes.letting_go.calls_of_theirs_that_let_locations_go_end_alike.Goals as goal

pub returns-clause-close : goal.returns-clause-close
returns-clause-close c = closes_end_alike

pub returns-clause-chdir : goal.returns-clause-chdir
returns-clause-chdir c = chdirs_end_alike

pub returns-clause-chroot : goal.returns-clause-chroot
returns-clause-chroot c = chroots_end_alike

pub returns-clause-exit : goal.returns-clause-exit
returns-clause-exit c = exits_end_alike

pub returns-clause-umount : goal.returns-clause-umount
returns-clause-umount c = umounts_end_alike

pub returns-clause-setns : goal.returns-clause-setns
returns-clause-setns c = setns_ends_alike
