use Rattle.vt_permits.specs.declared.grant.Grant.TheVariants as granted
use Rattle.std.proofs.Common.{refl}
use Rattle.vt_calls.proofs.Counting.{counts_if_same}
use Rattle.vt_calls.proofs.Spending.{ends, is_granted}
use Rattle.vt_calls.proofs.applying.apply.Goals as goal

pub look-requires : goal.look-requires
look-requires c =
    is_granted c.args.world.now c.args.change c.args.name.now c.args.permit c.spend.result (granted.Look c.in-Look.grant)
    c.spend.ensures c.in-Look.is c.requires

pub returns-in-Look-clause-ends : goal.returns-in-Look-clause-ends
returns-in-Look-clause-ends c =
    ends c.args.world.now c.args.change c.args.name.now c.args.permit c.spend.result (granted.Look c.in-Look.grant)
    c.spend.ensures c.in-Look.is c.args.world.now c.look.result c.look.ensures

pub make-requires : goal.make-requires
make-requires c =
    is_granted c.args.world.now c.args.change c.args.name.now c.args.permit c.spend.result (granted.Make c.in-Make.grant)
    c.spend.ensures c.in-Make.is c.requires

pub returns-in-Make-clause-ends : goal.returns-in-Make-clause-ends
returns-in-Make-clause-ends c =
    ends c.args.world.now c.args.change c.args.name.now c.args.permit c.spend.result (granted.Make c.in-Make.grant)
    c.spend.ensures c.in-Make.is c.make.new.world c.make.result c.make.ensures.ends

pub remove-requires : goal.remove-requires
remove-requires c =
    is_granted c.args.world.now c.args.change c.args.name.now c.args.permit c.spend.result (granted.Remove c.in-Remove.grant)
    c.spend.ensures c.in-Remove.is c.requires

pub returns-in-Remove-clause-ends : goal.returns-in-Remove-clause-ends
returns-in-Remove-clause-ends c =
    ends c.args.world.now c.args.change c.args.name.now c.args.permit c.spend.result (granted.Remove c.in-Remove.grant)
    c.spend.ensures c.in-Remove.is c.remove.new.world c.remove.result c.remove.ensures.ends

pub change_file-requires : goal.change_file-requires
change_file-requires c =
    is_granted c.args.world.now c.args.change c.args.name.now c.args.permit c.spend.result (granted.Write c.in-Write.grant)
    c.spend.ensures c.in-Write.is c.requires

pub returns-in-Write-clause-ends : goal.returns-in-Write-clause-ends
returns-in-Write-clause-ends c =
    ends c.args.world.now c.args.change c.args.name.now c.args.permit c.spend.result (granted.Write c.in-Write.grant)
    c.spend.ensures c.in-Write.is c.change_file.new.world c.change_file.result c.change_file.ensures.ends

pub change_descriptors-requires : goal.change_descriptors-requires
change_descriptors-requires c =
    is_granted c.args.world.now c.args.change c.args.name.now c.args.permit c.spend.result (granted.Descriptor c.in-Descriptor.grant)
    c.spend.ensures c.in-Descriptor.is c.requires

pub returns-in-Descriptor-clause-ends : goal.returns-in-Descriptor-clause-ends
returns-in-Descriptor-clause-ends c =
    ends c.args.world.now c.args.change c.args.name.now c.args.permit c.spend.result (granted.Descriptor c.in-Descriptor.grant)
    c.spend.ensures c.in-Descriptor.is c.change_descriptors.new.world c.change_descriptors.result c.change_descriptors.ensures.ends

pub change_tasks-requires : goal.change_tasks-requires
change_tasks-requires c =
    is_granted c.args.world.now c.args.change c.args.name.now c.args.permit c.spend.result (granted.Task c.in-Task.grant)
    c.spend.ensures c.in-Task.is c.requires

pub returns-in-Task-clause-ends : goal.returns-in-Task-clause-ends
returns-in-Task-clause-ends c =
    ends c.args.world.now c.args.change c.args.name.now c.args.permit c.spend.result (granted.Task c.in-Task.grant)
    c.spend.ensures c.in-Task.is c.change_tasks.new.world c.change_tasks.result c.change_tasks.ensures.ends

pub change_mounts-requires : goal.change_mounts-requires
change_mounts-requires c =
    is_granted c.args.world.now c.args.change c.args.name.now c.args.permit c.spend.result (granted.Mount c.in-Mount.grant)
    c.spend.ensures c.in-Mount.is c.requires

pub returns-in-Mount-clause-ends : goal.returns-in-Mount-clause-ends
returns-in-Mount-clause-ends c =
    ends c.args.world.now c.args.change c.args.name.now c.args.permit c.spend.result (granted.Mount c.in-Mount.grant)
    c.spend.ensures c.in-Mount.is c.change_mounts.new.world c.change_mounts.result c.change_mounts.ensures.ends

pub mount_overlay-requires : goal.mount_overlay-requires
mount_overlay-requires c =
    is_granted c.args.world.now c.args.change c.args.name.now c.args.permit c.spend.result (granted.Overlay c.in-Overlay.new)
    c.spend.ensures c.in-Overlay.is c.requires

pub returns-in-Overlay-clause-ends : goal.returns-in-Overlay-clause-ends
returns-in-Overlay-clause-ends c =
    ends c.args.world.now c.args.change c.args.name.now c.args.permit c.spend.result (granted.Overlay c.in-Overlay.new)
    c.spend.ensures c.in-Overlay.is c.mount_overlay.new.world c.mount_overlay.result c.mount_overlay.ensures.ends

pub returns-in-Look-clause-counts : goal.returns-in-Look-clause-counts
returns-in-Look-clause-counts c = counts_if_same c.args.world.now c.args.world.now refl
