use Rattle.std.proofs.Common.{◌≡◌, map, take}
use Rattle.vt_spec.proofs.Common.{get}
use Rattle.vt_location.specs.MountValue.{mount_of}
use Rattle.vt_location.specs.Numbers.{counted}
use Rattle.vt_location.specs.declared.numbers.GroupId.{GroupId}
use Rattle.vt_propagate.specs.Indexes.{place_of_group}
use Rattle.vt_propagate.proofs.indexes.all_group_places.Given as goal
use Rattle.vt_group.specs.Sets.{same_group}

abbrev pub invariant-loop-index : goal.invariant-loop-index
invariant-loop-index l = (group : GroupId) → get same_group l.places group
    ≡ place_of_group (map mount_of (take l.index l.parts)) (counted group.count)
