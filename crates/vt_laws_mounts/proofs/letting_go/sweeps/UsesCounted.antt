-- Uses are counted.
use Rattle.std.proofs.Common.{nat_eq}
use Rattle.vt_spec.proofs.Common.{used_in}
use Rattle.vt_laws_mounts.specs.LettingGo.Counts.{LocatedWhileCounted, MembersWhileCounted, MountedWhileCounted, OneMountLess, OneUseLess, UsedWhileCounted}
use Rattle.vt_laws_mounts.proofs.letting_go.Lists.{any_counted, times_around}

pub located_while_counted : LocatedWhileCounted
located_while_counted world number = any_counted _ _

pub mounted_while_counted : MountedWhileCounted
mounted_while_counted world number = any_counted _ _

pub used_while_counted : UsedWhileCounted
used_while_counted world filesystem number = any_counted (nat_eq number) (used_in nat_eq world filesystem)

pub members_while_counted : MembersWhileCounted
members_while_counted world group = any_counted _ _

pub one_use_less : OneUseLess
one_use_less world after front back location e f number =
    cc (times_around (λ l. nat_eq number l.mount) front back location)

pub one_mount_less : OneMountLess
one_mount_less world after front back mount e f number =
    cc (times_around (λ m. nat_eq number m.filesystem) front back mount)
