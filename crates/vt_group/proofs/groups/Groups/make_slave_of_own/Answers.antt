use Rattle.std.proofs.Common.{ap, sym, ◌∙◌}
use Rattle.vt_spec.proofs.Common.{group_of}
use Rattle.vt_location.specs.Numbers.{counted, group_number}
use Rattle.vt_group.specs.Grouping.{propagation_in}
use Rattle.vt_laws_mounts.proofs.GroupsUp.{group_shared}
use Rattle.vt_group.proofs.groups.Groups.make_slave_of_own.Goals as goal

pub set_slave-requires : goal.set_slave-requires
set_slave-requires c =
    group_shared (propagation_in c.args.self.now (counted c.args.mount.count)) (group_number c.in-Some-own_group.group)
    (ap group_of (sym c.in-Some.ensures) ∙ sym c.in-Some-own_group.ensures.number)
