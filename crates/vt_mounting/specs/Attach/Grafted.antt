-- What an attachment with copies at all receivers leaves: mounts, their groups, and the uses of inodes.
use Rattle.std.specs.List.{list_all}
use Rattle.std.specs.Prelude.{List, map, nat_eq, true, ℕ, ◌++◌, ◌≡◌}
use Rattle.vt_group.specs.declared.groups.NewGroup.{NewGroup}
use Rattle.vt_group.specs.Grouping.{Grouping}
use Rattle.vt_group.specs.Together.{GrowsTo, new_group, typed}
use Rattle.vt_location.specs.declared.locations.Location.{Location}
use Rattle.vt_location.specs.declared.mounts.Mount.{Mount}
use Rattle.vt_location.specs.Locations.{location_of}
use Rattle.vt_location.specs.MountValue.{mount_of}
use Rattle.vt_mount.specs.MountsValue.{MountEntry, are_ascending, mounts_in}
use Rattle.vt_propagate.specs.declared.copying.Counts.{Counts}
use Rattle.vt_propagate.specs.declared.copying.Graft.{Graft}
use Rattle.vt_propagate.specs.Attaching.{AttachesBy}
use Rattle.vt_propagate.specs.Planned.{planned_copies}
use Rattle.vt_propagate.specs.Pushing.{MovesOnce, OneChild}
use Rattle.vt_propagate.specs.Seen.{IsSeen}
use Rattle.vt_spec.specs.Machine.Attach.{parts_of}
use Rattle.vt_spec.specs.Machine.World.{World}
use Rattle.vt_mounting.specs.Attach.Planned.{Point, is_small, points_left, points_taken, with_planned}
use Rattle.vt_mounting.specs.Attach.PlannedUses.{point_seen}
use Rattle.vt_mounting.specs.Attach.Room.{has_small_nodes}
use Rattle.vt_mounting.specs.Detach.Uses.{Kept}
use Rattle.vt_laws_mounts.specs.Mounts.Attaching.{OneNumberAMount}

-- These are the parts of a world with these mounts and groups. The mounts that come have greater numbers than all
-- others.
pub record MayGraft (mounts : List MountEntry) (groups : Grouping) (graft : Graft) (counts : Counts) : Type 0 where
  pub world : World ℕ
  pub seen : IsSeen world mounts groups
  pub one_child : OneChild world
  pub parts_are : map mount_of graft.parts.now ≡ parts_of nat_eq world (location_of graft.place)
  pub apart : OneNumberAMount (map mount_of graft.parts.now)
  pub ascending : are_ascending (mounts_in mounts ++ planned_copies world graft counts) ≡ true

-- The plan is the definitions', and all of it was done.
pub record IsGrafted (graft : Graft) (counts : Counts) (old : Kept) (before : Grouping) (new : Kept)
    (now : Grouping) : Type 0 where
  pub copies : List Mount
  pub groups : List NewGroup
  pub points : List Point
  pub left : List Location
  pub plan : (world : World ℕ) → IsSeen world old.mounts before → OneChild world
      → map mount_of graft.parts.now ≡ parts_of nat_eq world (location_of graft.place)
      → AttachesBy world graft counts (map mount_of copies) (map new_group groups) (map point_seen points)
  pub once : MovesOnce (mounts_in old.mounts) (map point_seen points)
  pub left_are : map location_of left ≡ points_left points old.mounts
  pub left_small : list_all is_small left ≡ true
  pub done : new ≡ with_planned copies points left old
  pub grows : GrowsTo before now (map typed copies) (map new_group groups)
  pub slots : list_all has_small_nodes copies ≡ true
  pub taken_small : list_all is_small (points_taken points old.mounts) ≡ true
