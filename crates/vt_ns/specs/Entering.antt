-- The root of a namespace, and room for a task that enters it: setns(2).
use Rattle.std.specs.Prelude.{IfSome, List, Option, Some, filter, find, is_some, nat_eq, not, option_map, ℕ, ◌<◌, ◌≡◌}
use Rattle.vt_mounting.specs.Detach.Forking.{HasRoom}
use Rattle.vt_world.specs.WorldValue.{WorldValue, namespace_counted}
use Rattle.vt_location.specs.declared.locations.Location as code
use Rattle.vt_location.specs.Locations.{location_of}
use Rattle.vt_location.specs.Numbers.{counted, most_counted}
use Rattle.vt_mount.specs.MountsValue.{mounts_in}
use Rattle.vt_spec.specs.Lists.{holds_of}
use Rattle.vt_spec.specs.Machine.Mounts.{Location, Mount, root_of, topmost}

-- the one of its mounts that has no mount point
abbrev pub root_mount_in : ℕ → List (Mount ℕ) → Option (Mount ℕ)
root_mount_in namespace mounts =
    find (λ mount. not (is_some mount.mount_point)) (filter (λ mount. holds_of (nat_eq namespace) mount.namespace) mounts)

-- the root of the topmost mount over its root
abbrev pub namespace_root : ℕ → List (Mount ℕ) → Option (Location ℕ)
namespace_root namespace mounts =
    option_map (λ mount. topmost nat_eq mounts (root_of mount)) (root_mount_in namespace mounts)

-- that root may get two uses more, and the namespace of this count one task more
pub record HasRoomToEnter (value : WorldValue) (count : ℕ) : Type 0 where
  pub root : (at : code.Location) → Some (location_of at) ≡ namespace_root (counted count) (mounts_in value.mounts)
      → HasRoom 2 at value.mounts value.filesystems
  pub tasks : IfSome (namespace_counted value count) (λ entry. entry.tasks < most_counted)
