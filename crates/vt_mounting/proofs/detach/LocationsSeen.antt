-- The filesystem that the mount of a location shows, where the location is there: the one of its node.
use Rattle.std.proofs.Common.{map, nat_eq, true, ℕ, ◌≡◌}
use Rattle.vt_spec.proofs.Common.{Mount, and_parts, is_among, is_located_well, mount_at}
use Rattle.vt_location.specs.declared.locations.Location.{Location}
use Rattle.vt_mounting.proofs.Common.{IsHeld, WorldValue, counted, is_small_node, location_of, world_of}
use Rattle.vt_mounting.proofs.detach.NodesFound.{at_home}

pub seen_where_located : (value : WorldValue) → IsHeld value → (at : Location) → is_small_node at.node ≡ true
    → is_located_well nat_eq (world_of value) (location_of at) ≡ true
    → (mount_at nat_eq (world_of value) (location_of at)).filesystem ≡ counted at.node.filesystem.count
seen_where_located value held at small there =
    at_home held (mount_at nat_eq (world_of value) (location_of at)).filesystem at.node small
    (and_parts (is_among nat_eq (counted at.mount.count)
    (map (λ (mount : Mount ℕ). mount.number) (world_of value).mounts)) _ there).1
