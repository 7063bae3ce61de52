use Rattle.std.proofs.Common.{◌≡◌, map, take}
use Rattle.vt_spec.proofs.Common.{get}
use Rattle.vt_location.specs.MountValue.{mount_of}
use Rattle.vt_location.specs.Numbers.{counted, same_id}
use Rattle.vt_location.specs.declared.numbers.MountId.{MountId}
use Rattle.vt_propagate.specs.Indexes.{place_of}
use Rattle.vt_propagate.proofs.indexes.all_places.Given as goal

abbrev pub invariant-loop-index : goal.invariant-loop-index
invariant-loop-index l =
    (id : MountId) → get same_id l.places id ≡ place_of (map mount_of (take l.index l.mounts)) (counted id.count)
