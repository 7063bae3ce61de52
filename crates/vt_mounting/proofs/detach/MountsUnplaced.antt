-- What a mount leaves when it is detached.
use Rattle.std.proofs.Common.{◌≡◌, ◌<◌, ℕ, arith, ◌+◌, true, List, drop, get_or, length, map, Option, option_map, IfSome}
use Rattle.vt_spec.proofs.Common.{common_steps}
use Rattle.vt_location.specs.declared.locations.Location.{Location}
use Rattle.vt_location.specs.declared.numbers.MountId.{MountId}
use Rattle.vt_mounting.proofs.Common.{counted, is_small_node, location_of}
use Rattle.vt_mounting.specs.Detach.Detached.{LeaveInTurn}
use Rattle.vt_mounting.specs.Detach.Uses.{Kept, point_of, without_attachment}

-- what leaves in turn from the next one on leaves in turn from this one on
pub turn_goes_on : (ids : List MountId) (i : ℕ) (d : MountId) → i < length ids
    → (k : Kept) {middle : Kept} (last : Kept)
    (point : Option Location) → option_map location_of point ≡ point_of (counted (get_or ids i d).count) k.mounts
    → IfSome point (λ place. is_small_node place.node ≡ true)
    → middle ≡ without_attachment (counted (get_or ids i d).count) point k
    → LeaveInTurn (map (λ (id : MountId). counted id.count) (drop (i + 1) ids)) middle last
    → LeaveInTurn (map (λ (id : MountId). counted id.count) (drop i ids)) k last
turn_goes_on ids i d less k last point at small left turn = grind (arith, common_steps)
