-- Where mounts stand once others are detached, and how a list of new mount points is applied.
use Rattle.std.specs.Prelude.{List, None, Option, Some, [], false, filter_map, find, flat_map, if◌then◌else◌, length, map, nat_eq, option_map, ℕ, ◌<◌, ◌≡◌, ◌≤◌, ◌||◌}
use Rattle.std.specs.List.{list_any}
use Rattle.std.specs.Map.{lookup}
use Rattle.vt_spec.specs.Lists.{or_else, then_some}
use Rattle.vt_spec.specs.Machine.Detach.{is_going, inherited_mount_point, taken_away}
use Rattle.vt_spec.specs.Machine.Mounts.{Location, Mount, children, detached}
use Rattle.vt_spec.specs.Machine.Receives.{regrouped}
use Rattle.vt_spec.specs.Machine.World.{World, mount_numbered, with_mounts}
use Rattle.vt_location.specs.Locations.{location_of}
use Rattle.vt_location.specs.declared.numbers.MountId.{MountId}
use Rattle.vt_location.specs.Numbers.{counted, mount_number, same_id}
use Rattle.vt_mount.specs.declared.moving.NewPoint.{NewPoint}

abbrev pub point_of : NewPoint → ℕ × Location ℕ
point_of point = (counted point.mount.count, location_of point.place)

-- a mount at its new mount point, if it gets one
abbrev pub moved_by : List (ℕ × Location ℕ) → Mount ℕ → Mount ℕ
moved_by points mount = record mount { mount_point = or_else (lookup (nat_eq mount.number) points) mount.mount_point }

-- Where these mounts are detached, the others move to these mount points, and the groups without members end.
abbrev pub left_by : List ℕ → List (ℕ × Location ℕ) → Mount ℕ → Mount ℕ
left_by gone points mount = if is_going nat_eq gone mount.number then detached mount else moved_by points mount

abbrev pub LeavesBy : World ℕ → List ℕ → List (ℕ × Location ℕ) → Type 0
LeavesBy world gone points = taken_away nat_eq world gone
    ≡ regrouped nat_eq (with_mounts world (map (left_by gone points) world.mounts))

-- a mount that stays, and its mount point then
abbrev pub FallsTo : World ℕ → List ℕ → ℕ × Location ℕ → Type 0
FallsTo world gone point =
    (is_going nat_eq gone point.0 ≡ false)
    × (option_map (inherited_mount_point nat_eq world gone) (mount_numbered nat_eq world point.0).mount_point ≡ Some point.1)

-- By the list of mounts alone

-- a world of mounts alone
abbrev pub of_mounts : List (Mount ℕ) → World ℕ
of_mounts mounts =
    record { mounts = mounts; master = λ group. None; filesystems = []; namespaces = []; tasks = []; change = 0 }

-- the new mount point of a mount that stays
abbrev pub point_left : List (Mount ℕ) → List ℕ → Mount ℕ → Option (ℕ × Location ℕ)
point_left mounts gone mount =
    if is_going nat_eq gone mount.number then None
    else option_map (λ place. (mount.number, inherited_mount_point nat_eq (of_mounts mounts) gone place)) mount.mount_point

abbrev pub point_left_of : List (Mount ℕ) → List ℕ → ℕ → Option (ℕ × Location ℕ)
point_left_of mounts gone number =
    then_some (find (λ mount. nat_eq number mount.number) mounts) (point_left mounts gone)

-- a set of just these mounts
abbrev pub HasJust : List MountId → List ℕ → Type 0
HasJust keys numbers = (id : MountId) → list_any (same_id id) keys ≡ is_going nat_eq numbers (counted id.count)

-- a set has these mounts more
abbrev pub HasMore : List MountId → List MountId → List MountId → Type 0
HasMore old ids new = (id : MountId) → list_any (same_id id) new
    ≡ (list_any (same_id id) old || is_going nat_eq (map mount_number ids) (counted id.count))

-- a set has just these mounts if they are more than eight, else none
pub record IsKnown (keys ids : List MountId) : Type 0 where
  pub few : length ids ≤ 8 → keys ≡ []
  pub many : 8 < length ids → HasJust keys (map mount_number ids)

-- of all mounts on one that goes, and on all that go
abbrev pub points_left_on : List (Mount ℕ) → List ℕ → ℕ → List (ℕ × Location ℕ)
points_left_on mounts gone number =
    filter_map (point_left_of mounts gone) (map (λ child. child.number) (children nat_eq mounts number))

abbrev pub all_points_left : List (Mount ℕ) → List ℕ → List (ℕ × Location ℕ)
all_points_left mounts gone = flat_map (points_left_on mounts gone) gone
