-- A whole attachment, by its plans.
use Rattle.std.specs.Prelude.{All, Contains, List, Option, drop, false, is_some, length, map, nat_eq, take, true, ℕ, ◌++◌, ◌≡◌}
use Rattle.vt_spec.specs.Lists.{folded, rest_of}
use Rattle.vt_spec.specs.Machine.Attach.{attached_by, masters_with}
use Rattle.vt_spec.specs.Machine.Mounts.{Location, Mount, with_mount}
use Rattle.vt_spec.specs.Machine.World.{World}
use Rattle.vt_location.specs.Locations.{location_of}
use Rattle.vt_location.specs.MountValue.{mount_of}
use Rattle.vt_propagate.specs.declared.copying.Counts.{Counts}
use Rattle.vt_propagate.specs.declared.copying.Graft.{Graft}
use Rattle.vt_propagate.specs.Falling.{moved_by}
use Rattle.vt_propagate.specs.Planned.{numbers_at, planned_copies, planned_groups}
use Rattle.vt_propagate.specs.Pushing.{PushesBy}

-- A tree that moves is of mounts of the world, each but the first on another.
pub record IsMoved (world : World ℕ) (tree : List (Mount ℕ)) : Type 0 where
  pub there : All (Contains world.mounts) tree
  pub standing : All (λ mount. is_some mount.mount_point ≡ true) (rest_of tree)

-- What an attachment makes of a world: the mounts that stood at the places of receivers move, the copies come last, and
-- the new groups get their masters. Where a tree moves, the mounts that move stand first among the copies: each takes
-- the place of the mount with its number, and only the other copies come last.
pub record AttachesBy (world : World ℕ) (graft : Graft) (counts : Counts) (copies : List (Mount ℕ))
    (new : List (ℕ × Option ℕ))
    (points : List (ℕ × Location ℕ)) : Type 0 where
  pub copies_are : copies ≡ planned_copies world graft counts
  pub groups_are : new ≡ planned_groups world graft counts
  pub pushes : PushesBy world graft counts points
  pub bind : graft.moves ≡ false
      → attached_by nat_eq world (numbers_at world graft counts) (location_of graft.place) graft.moves
      (map mount_of graft.tree.now)
      ≡ record world {
        mounts = map (moved_by points) world.mounts
            ++ copies;
        master = folded (masters_with nat_eq) world.master new;
      }
  pub move : graft.moves ≡ true → IsMoved world (map mount_of graft.tree.now)
      → attached_by nat_eq world (numbers_at world graft counts) (location_of graft.place) graft.moves
      (map mount_of graft.tree.now)
      ≡ record world {
        mounts = map (moved_by points) (folded (with_mount nat_eq) world.mounts (take (length graft.tree.now) copies))
            ++ drop (length graft.tree.now) copies;
        master = folded (masters_with nat_eq) world.master new;
      }
