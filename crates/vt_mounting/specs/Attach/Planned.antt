-- Mounts that get other mount points while others come.
use Rattle.std.specs.List.{list_all}
use Rattle.std.specs.Prelude.{Bool, List, [], flat_map, if◌then◌else◌, is_some, map, option_to_list, true, ℕ, ◌++◌, ◌∷◌, ◌≡◌}
use Rattle.vt_location.specs.declared.locations.Location.{Location}
use Rattle.vt_location.specs.declared.mounts.Mount.{Mount}
use Rattle.vt_location.specs.Locations.{is_small_node, location_of}
use Rattle.vt_location.specs.Numbers.{counted}
use Rattle.vt_fs.specs.FilesystemsValue.{Shown}
use Rattle.vt_mount.specs.MountsValue.{MountEntry, entry_numbered}
use Rattle.vt_mount.specs.declared.moving.Moved.{Moved}
use Rattle.vt_mount.specs.declared.moving.NewPoint.{NewPoint}
pub use Rattle.vt_mount.specs.Moving.{moved_to, placed_entry, with_points}
use Rattle.vt_spec.specs.Lists.{folded}
use Rattle.vt_spec.specs.Machine.Mounts.{Location as Place}
use Rattle.vt_mounting.specs.Detach.Uses.{Kept, inode_of, merged_by, pinned_in, point_of, shown_by, unpinned_in, unused_entry}

-- a mount and its new mount point
abbrev pub Point : Type 0
Point = NewPoint

-- the mount points that a mount gets and leaves so, if it is there
abbrev pub taken_at : Point → List MountEntry → List Location
taken_at point entries = if is_some (entry_numbered entries (counted point.mount.count)) then point.place ∷ [] else []

abbrev pub left_at : Point → List MountEntry → List (Place ℕ)
left_at point entries = option_to_list (point_of (counted point.mount.count) entries)

abbrev pub points_taken : List Point → List MountEntry → List Location
points_taken [] entries = []
points_taken (point ∷ rest) entries = points_taken rest entries ++ taken_at point (with_points rest entries)

abbrev pub points_left : List Point → List MountEntry → List (Place ℕ)
points_left [] entries = []
points_left (point ∷ rest) entries = points_left rest entries ++ left_at point (with_points rest entries)

-- the mount points that mounts got and left when they moved
abbrev pub taken_of : List Moved → List Location
taken_of moved = map (λ one. one.to) moved

abbrev pub left_of : List Moved → List Location
left_of moved = flat_map (λ one. option_to_list one.from) moved

-- one use more or less of the inode at a mount point
abbrev pub pinned_by : List Shown → Location → List Shown
pinned_by all point = pinned_in (inode_of point.node) all

abbrev pub unpinned_by : List Shown → Location → List Shown
unpinned_by all point = unpinned_in (inode_of point.node) all

abbrev pub is_small : Location → Bool
is_small point = is_small_node point.node

-- these are the mount points that mounts get and leave
pub record AreMoves (points : List Point) (entries : List MountEntry) (taken left : List Location) : Type 0 where
  pub taken_are : taken ≡ points_taken points entries
  pub left_are : map location_of left ≡ points_left points entries
  pub taken_small : list_all is_small taken ≡ true
  pub left_small : list_all is_small left ≡ true

-- the mounts after it, and the uses: those that come before those that go
abbrev pub with_planned : List Mount → List Point → List Location → Kept → Kept
with_planned copies points left k = record {
  mounts = with_points points k.mounts ++ map unused_entry copies;
  filesystems = folded unpinned_by
      (folded shown_by (folded pinned_by k.filesystems (points_taken points k.mounts)) copies) left;
  overlays = folded merged_by k.overlays copies;
}
