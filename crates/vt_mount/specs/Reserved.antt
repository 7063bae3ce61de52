-- Room that is reserved in the lists of mounts, before mounts come and move.
use Rattle.std.specs.List.{flat_map}
use Rattle.std.specs.Prelude.{Bool, List, map, option_to_list, reverse, ◌≤◌}
use Rattle.vt_location.specs.declared.locations.Location.{Location}
use Rattle.vt_location.specs.declared.mounts.Mount.{Mount}
use Rattle.vt_location.specs.declared.numbers.NamespaceId.{NamespaceId}
use Rattle.std.specs.declared.cmp.PartialEq as equal
use Rattle.vt_location.specs.Numbers.{same_id}
use Rattle.vt_mount.specs.declared.ascending.Ordered as ordered
use Rattle.vt_mount.specs.declared.indexes.Indexes.{Indexes}
use Rattle.vt_mount.specs.declared.lists.ListsBy.{ListsBy}
use Rattle.vt_mount.specs.declared.moving.NewPoint.{NewPoint}
use Rattle.vt_location.specs.SameNodes.{same_node}
use Rattle.vt_mount.specs.Indexes.{same_namespace}
use Rattle.vt_mount.specs.Listed.{reserved}
pub use Rattle.vt_mount.specs.Listed.{count_of}

-- under each key there is room for those of them that it is the key of
abbrev pub ReservesBy : {K X T : Type 0} {o : ordered.Ghosts T} {e : equal.Ghosts T} → (K → K → Bool) → (X → K) → List X → ListsBy K T o e
    → Type 0
ReservesBy eq key_of xs lists = (q : _) → count_of (λ x. eq q (key_of x)) xs ≤ reserved eq q lists

-- there is room for a mount in each of these namespaces, and for one at each of these locations
pub record Reserves (indexes : Indexes) (namespaces : List NamespaceId) (places : List Location) : Type 0 where
  pub namespace : ReservesBy same_namespace (λ namespace. namespace) namespaces indexes.by_namespace.lists
  pub parent : ReservesBy same_id (λ place. place.mount) places indexes.by_parent
  pub inode : ReservesBy same_node (λ place. place.node) places indexes.by_inode

-- the namespaces and the mount points of mounts that come
abbrev pub namespaces_of : List Mount → List NamespaceId
namespaces_of new = flat_map (λ mount. option_to_list mount.namespace) new

abbrev pub mount_points_of : List Mount → List Location
mount_points_of new = flat_map (λ mount. option_to_list mount.mount_point) new

-- the mount points that mounts are to get, in the order of the moves
abbrev pub moved_places : List NewPoint → List Location
moved_places points = map (λ point. point.place) (reverse points)
