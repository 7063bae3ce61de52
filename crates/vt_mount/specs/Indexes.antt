-- The lists of mounts by namespace, parent and mount point.
use Rattle.std.specs.Prelude.{Bool, List, Option, filter, if◌then◌else◌, not, option_map, true, unwrap_or, ℕ, [], ◌&&◌, ◌+◌, ◌++◌, ◌∷◌}
use Rattle.vt_spec.specs.Lists.{holds_of}
use Rattle.vt_location.specs.Numbers.{same_id}
use Rattle.vt_location.specs.declared.locations.Location.{Location}
use Rattle.vt_location.specs.declared.locations.NodeRef.{NodeRef}
use Rattle.vt_location.specs.declared.mounts.Mount.{Mount}
use Rattle.vt_location.specs.declared.numbers.MountId.{MountId}
use Rattle.vt_location.specs.declared.numbers.NamespaceId.{NamespaceId}
use Rattle.vt_location.specs.Locations.{is_small_node}
use Rattle.vt_location.specs.SameNodes.{same_node}
use Rattle.vt_mount.specs.declared.indexes.Indexes.{Indexes}
use Rattle.vt_mount.specs.Listed.{count_of, listed}
pub use Rattle.vt_mount.specs.Listed.{same_namespace}
use Rattle.vt_mount.specs.Rising.{inserted, precedes}
use Rattle.vt_mount.specs.Standing.{same_standing}

abbrev pub same_place : Location → Location → Bool
same_place a b = same_id a.mount b.mount && same_node a.node b.node

-- the mounts of a namespace, and on a mount
abbrev pub listed_in : Indexes → NamespaceId → List MountId
listed_in indexes namespace = listed same_namespace namespace indexes.by_namespace.lists

abbrev pub listed_on : Indexes → MountId → List MountId
listed_on indexes parent = listed same_id parent indexes.by_parent

-- how often a mount is listed at a location
abbrev pub count_at : Indexes → Location → MountId → ℕ
count_at indexes place mount = count_of (same_standing (record { parent = place.mount; mount = mount }))
    (listed same_node place.node indexes.by_inode)

-- the mount is in this namespace, on this mount, at this location, on this inode
abbrev pub is_in : NamespaceId → Mount → Bool
is_in namespace mount = holds_of (same_namespace namespace) mount.namespace

abbrev pub is_on : MountId → Mount → Bool
is_on parent mount = holds_of (λ place. same_id parent place.mount) mount.mount_point

abbrev pub is_at : Location → Mount → Bool
is_at location mount = holds_of (same_place location) mount.mount_point

abbrev pub is_over : NodeRef → Mount → Bool
is_over inode mount = holds_of (λ place. same_node inode place.node) mount.mount_point

-- a list with a mount added to its end, or removed from it, if it belongs there
abbrev pub pushed : Bool → MountId → List MountId → List MountId
pushed here id list = if here then list ++ id ∷ [] else list

abbrev pub taken : Bool → MountId → List MountId → List MountId
taken here id list = if here then filter (λ other. not (same_id other id)) list else list

-- the mount point's node has what code has in 64 bits
abbrev pub has_small_point : Mount → Bool
has_small_point mount = unwrap_or (option_map (λ place. is_small_node place.node) mount.mount_point) true

-- the old mount point is on this mount, at this location
abbrev pub stood_on : MountId → Option Location → Bool
stood_on parent was = holds_of (λ place. same_id parent place.mount) was

abbrev pub stood_at : Location → Option Location → Bool
stood_at location was = holds_of (same_place location) was

-- a list with a mount inserted, or moved: removed if it was there, inserted if it is here now
abbrev pub put_in_place : Bool → MountId → List MountId → List MountId
put_in_place here id list = if here then inserted precedes id list else list

abbrev pub relisted : Bool → Bool → MountId → List MountId → List MountId
relisted there here id list = put_in_place here id (taken there id list)

-- how often one is listed, if it is put in or taken out there
abbrev pub count_put : Bool → ℕ → ℕ
count_put here count = if here then count + 1 else count

abbrev pub count_left : Bool → ℕ → ℕ
count_left there count = if there then 0 else count
