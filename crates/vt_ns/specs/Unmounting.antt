-- Which unmounts are of mounts alone, and how mounts go that propagation detaches together: umount(2).
use Rattle.std.specs.List.{list_all}
use Rattle.std.specs.Prelude.{Bool, List, [], map, nat_eq, not, true, ℕ, ◌&&◌, ◌≡◌}
use Rattle.vt_spec.specs.Lists.{holds_of}
use Rattle.vt_spec.specs.Machine.Mounts.{Mount, is_shared, mount_in}
use Rattle.vt_mounting.specs.Attach.Planned.{Point, is_small, points_left, points_taken, with_planned}
use Rattle.vt_mounting.specs.Detach.Detached.{LeaveTogether}
use Rattle.vt_mounting.specs.Detach.Uses.{Kept, Merged, kept_with}
use Rattle.vt_fs.specs.FilesystemsValue.{Filesystems}
use Rattle.vt_group.specs.Grouping.{Grouping}
use Rattle.vt_group.specs.Together.{GrowsTo}
use Rattle.vt_location.specs.declared.locations.Location.{Location}
use Rattle.vt_location.specs.Locations.{location_of}
use Rattle.vt_mount.specs.MountsValue.{MountEntry}
use Rattle.vt_laws_worlds.specs.Permits.Taken.{is_ungrouped}

-- the parent of a mount is shared
abbrev pub stands_on_shared : List (Mount ℕ) → ℕ → Bool
stands_on_shared mounts number =
    holds_of (λ place. is_shared (mount_in nat_eq mounts place.mount).propagation)
    (mount_in nat_eq mounts number).mount_point

-- a mount in no peer group, and its parent is not shared
abbrev pub unmounts_alone : List (Mount ℕ) → ℕ → Bool
unmounts_alone mounts number =
    is_ungrouped (mount_in nat_eq mounts number).propagation && not (stands_on_shared mounts number)

-- none of these mounts is in a peer group
abbrev pub are_ungrouped : List (Mount ℕ) → List ℕ → Bool
are_ungrouped mounts numbers = list_all (λ number. is_ungrouped (mount_in nat_eq mounts number).propagation) numbers

-- Mounts get these mount points, and then others are detached, and leave their groups at once.
pub record GoTogether (gone : List ℕ) (points : List Point) (old : Kept) (before : Grouping) (new : Kept)
    (now : Grouping) : Type 0 where
  pub between : List MountEntry
  pub files : Filesystems
  pub merged : List Merged
  pub groups : Grouping
  pub left : List Location
  pub left_are : map location_of left ≡ points_left points old.mounts
  pub left_small : list_all is_small left ≡ true
  pub taken_small : list_all is_small (points_taken points old.mounts) ≡ true
  pub moved : kept_with between files merged ≡ with_planned [] points left old
  pub grown : GrowsTo before groups [] []
  pub together : LeaveTogether gone (kept_with between files merged) groups new now
