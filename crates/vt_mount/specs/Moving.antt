-- Mounts that get other mount points together.
use Rattle.std.specs.Prelude.{Bool, List, None, Option, Some, [], nat_eq, option_map, option_to_list, true, unwrap_or, ℕ, ◌&&◌, ◌++◌, ◌∷◌}
use Rattle.vt_location.specs.declared.locations.Location.{Location}
use Rattle.vt_location.specs.Locations.{is_small_node, location_of}
use Rattle.vt_location.specs.Numbers.{counted}
use Rattle.vt_mount.specs.declared.moving.NewPoint.{NewPoint}
use Rattle.vt_mount.specs.declared.moving.Moved.{Moved}
use Rattle.vt_mount.specs.MountsValue.{MountEntry, changed, entry_numbered}
use Rattle.vt_spec.specs.Machine.Mounts as meant
use Rattle.vt_spec.specs.Machine.Mounts.{Location as Place}
use Rattle.vt_spec.specs.Machine.Namespaces.{pivoted_mount}

abbrev pub placed_entry : Location → MountEntry → MountEntry
placed_entry place entry = record entry { mount = record entry.mount { mount_point = Some (location_of place) } }

abbrev pub moved_to : NewPoint → List MountEntry → List MountEntry
moved_to point entries = changed (counted point.mount.count) (placed_entry point.place) entries

-- a mount that loses its mount point, and nothing else
abbrev pub lifted_entry : MountEntry → MountEntry
lifted_entry entry = record entry { mount = record entry.mount { mount_point = None } }

-- one after pivot_root(2): the second mount stands where the first stood, and that one gets a mount point
abbrev pub pivoted_entry : meant.Mount ℕ → meant.Mount ℕ → Place ℕ → MountEntry → MountEntry
pivoted_entry root new put entry = record entry { mount = pivoted_mount nat_eq root new put entry.mount }

-- the last of them first: of two for one mount the first one stays
abbrev pub with_points : List NewPoint → List MountEntry → List MountEntry
with_points [] entries = entries
with_points (point ∷ rest) entries = moved_to point (with_points rest entries)

-- a mount that moved, where it stood and where it stands
abbrev pub move_of : Moved → ℕ × Option (Place ℕ) × Location
move_of moved = (counted moved.mount.count, option_map location_of moved.from, moved.to)

-- the move of a mount, if it is there
abbrev pub moves_by : NewPoint → List MountEntry → List (ℕ × Option (Place ℕ) × Location)
moves_by point entries =
    option_to_list (option_map (λ entry. (entry.mount.number, entry.mount.mount_point, point.place))
    (entry_numbered entries (counted point.mount.count)))

-- in their order
abbrev pub all_moves : List NewPoint → List MountEntry → List (ℕ × Option (Place ℕ) × Location)
all_moves [] entries = []
all_moves (point ∷ rest) entries = all_moves rest entries ++ moves_by point (with_points rest entries)

-- the slot of a mount point's inode is below 2^64
abbrev pub is_small_point : Option Location → Bool
is_small_point point = unwrap_or (option_map (λ place. is_small_node place.node) point) true

-- those of both mount points are
abbrev pub is_small : Moved → Bool
is_small moved = is_small_point moved.from && is_small_point (Some moved.to)
