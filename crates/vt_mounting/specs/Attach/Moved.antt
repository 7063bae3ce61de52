-- What a move with copies at all receivers leaves: mounts with their types, their groups, and the uses of inodes.
use Rattle.std.specs.List.{list_all}
use Rattle.std.specs.Prelude.{List, [], drop, length, map, nat_eq, true, ℕ, ◌++◌, ◌∷◌, ◌≡◌, ◌≤◌}
use Rattle.vt_group.specs.declared.groups.NewGroup.{NewGroup}
use Rattle.vt_group.specs.Grouping.{Grouping}
use Rattle.vt_group.specs.Together.{GrowsTo, new_group, typed}
use Rattle.vt_location.specs.declared.locations.Location.{Location}
use Rattle.vt_location.specs.declared.mounts.Mount.{Mount}
use Rattle.vt_location.specs.Locations.{location_of}
use Rattle.vt_location.specs.MountValue.{mount_of}
use Rattle.vt_mount.specs.MountsValue.{MountEntry, are_ascending, mounts_in}
use Rattle.vt_propagate.specs.declared.copying.Counts.{Counts}
use Rattle.vt_propagate.specs.declared.copying.Graft.{Graft}
use Rattle.vt_propagate.specs.Attaching.{AttachesBy}
use Rattle.vt_propagate.specs.Planned.{planned_copies}
use Rattle.vt_propagate.specs.Pushing.{KeepsLeaver, MovesOnce, OneChild}
use Rattle.vt_retype.specs.Retyping.{with_type_in}
use Rattle.vt_propagate.specs.Seen.{IsSeen}
use Rattle.vt_spec.specs.Lists.{folded}
use Rattle.vt_spec.specs.Machine.Attach.{parts_of}
use Rattle.vt_spec.specs.Machine.Mounts.{Propagation}
use Rattle.vt_spec.specs.Machine.World.{World}
use Rattle.vt_mounting.specs.Attach.Planned.{Point, is_small, points_left, points_taken, with_planned}
use Rattle.vt_mounting.specs.Attach.PlannedUses.{point_seen}
use Rattle.vt_mounting.specs.Attach.Room.{has_small_nodes}
use Rattle.vt_mounting.specs.Detach.Uses.{Kept}
use Rattle.vt_laws_mounts.specs.Mounts.Attaching.{OneNumberAMount}

-- mounts get types, one after the other
abbrev pub typed_all : List (ℕ × Propagation ℕ) → List MountEntry → List MountEntry
typed_all types entries = folded with_type_in entries types

abbrev pub with_types : List (ℕ × Propagation ℕ) → Kept → Kept
with_types types k = record k { mounts = typed_all types k.mounts }

-- the new mount point of the first mount of a tree that moves
abbrev pub top_of : Location → List Mount → List Point
top_of place [] = []
top_of place (top ∷ rest) = record { mount = top.number; place = place } ∷ []

abbrev pub top_point : Graft → List Point
top_point graft = top_of graft.place graft.tree.now

-- These are the parts of a world with these mounts and groups. The tree's own mounts stand first among the copies, and
-- the others have greater numbers than all mounts.
pub record MayMoveTree (mounts : List MountEntry) (groups : Grouping) (graft : Graft) (counts : Counts) : Type 0 where
  pub world : World ℕ
  pub seen : IsSeen world mounts groups
  pub one_child : OneChild world
  pub parts_are : map mount_of graft.parts.now ≡ parts_of nat_eq world (location_of graft.place)
  pub apart : OneNumberAMount (map mount_of graft.parts.now)
  pub own : length graft.tree.now ≤ length (planned_copies world graft counts)
  pub ascending : are_ascending (mounts_in mounts ++ drop (length graft.tree.now) (planned_copies world graft counts))
      ≡ true

-- The plan is the definitions', and all of it was done: the first mount of the tree moves to the destination, and its
-- own mounts get their types.
pub record IsMovedBy (graft : Graft) (counts : Counts) (old : Kept) (before : Grouping) (new : Kept)
    (now : Grouping) : Type 0 where
  pub copies : List Mount
  pub groups : List NewGroup
  pub pushed : List Point
  pub left : List Location
  pub plan : (world : World ℕ) → IsSeen world old.mounts before → OneChild world
      → map mount_of graft.parts.now ≡ parts_of nat_eq world (location_of graft.place)
      → AttachesBy world graft counts (map mount_of copies) (map new_group groups) (map point_seen pushed)
  pub once : MovesOnce (mounts_in old.mounts) (map point_seen pushed)
  pub leaver : KeepsLeaver graft (map point_seen pushed)
  pub left_are : map location_of left ≡ points_left (pushed ++ top_point graft) old.mounts
  pub left_small : list_all is_small left ≡ true
  pub done : new
      ≡ with_types (map typed copies)
      (with_planned (drop (length graft.tree.now) copies) (pushed ++ top_point graft) left old)
  pub grows : GrowsTo before now (map typed copies) (map new_group groups)
  pub slots : list_all has_small_nodes (drop (length graft.tree.now) copies) ≡ true
  pub taken_small : list_all is_small (points_taken (pushed ++ top_point graft) old.mounts) ≡ true
