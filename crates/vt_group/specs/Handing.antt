-- What a group that ends leaves to its heir.
use Rattle.std.specs.Prelude.{Option, Some, if◌then◌else◌, option_map}
use Rattle.vt_location.specs.declared.mounts.Propagation.{Propagation}
use Rattle.vt_location.specs.declared.mounts.Propagation.TheVariants.{Private, Shared, Slave, Unbindable}
use Rattle.vt_location.specs.declared.numbers.GroupId.{GroupId}
use Rattle.vt_group.specs.Sets.{same_group}

abbrev pub group_handed : GroupId → Option GroupId → GroupId → Option GroupId
group_handed lost heir master = if same_group master lost then heir else Some master

abbrev pub kind_handed : GroupId → Option GroupId → Propagation → Option Propagation
kind_handed lost heir (Shared group) = Some (Shared group)
kind_handed lost heir (Slave master) = option_map Slave (group_handed lost heir master)
kind_handed lost heir Private = Some Private
kind_handed lost heir Unbindable = Some Unbindable
