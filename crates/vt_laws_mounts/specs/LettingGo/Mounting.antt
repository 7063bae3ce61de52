-- What goes after a change of mounts: umount(2), also with MNT_DETACH, unlink(2) of a mount point, mount_namespaces(7),
-- pivot_root(2), mount(2) with MS_MOVE.
use Rattle.std.specs.List.{list_all}
use Rattle.std.specs.Prelude.{Bool, List, Option, [], false, filter, filter_map, map, nat_eq, true, ℕ, ◌++◌, ◌||◌, ◌≡◌}
use Rattle.vt_spec.specs.Machine.Detach.{is_going, taken_away}
use Rattle.vt_spec.specs.Lists.{holds_of, is_among}
use Rattle.vt_spec.specs.Machine.Mounts.{Location, Mount}
use Rattle.vt_spec.specs.Machine.Namespaces.{is_in_ended, namespaces_ended}
use Rattle.vt_spec.specs.Machine.Settled.{settled}
use Rattle.vt_spec.specs.Machine.World.{World, mount_at, mount_numbered}
use Rattle.vt_spec.specs.Machine.Invariants.{is_nowhere_or_attached}
use Rattle.vt_laws_mounts.specs.LettingGo.Detaching.{with_changed}
use Rattle.vt_laws_mounts.specs.LettingGo.Leaving.{IsSettledPlain}
use Rattle.vt_laws_mounts.specs.LettingGo.OneByOne.{GroupsInUseBut, Inode, Losers, let_go}

-- the inode at which a mount's root is, and the one of a place
abbrev pub root_inode : World ℕ → ℕ → Inode
root_inode world number = ((mount_numbered nat_eq world number).filesystem, (mount_numbered nat_eq world number).root)

abbrev pub inode_at : World ℕ → Location ℕ → Inode
inode_at world place = ((mount_at nat_eq world place).filesystem, place.node)

-- What mounts used that may go, and the inodes of places that were left
abbrev pub used_by_mounts : World ℕ → List ℕ → List (Location ℕ) → List ℕ → Losers
used_by_mounts world gone places groups = record {
  mounts = gone;
  filesystems = map (λ number. (mount_numbered nat_eq world number).filesystem) gone;
  inodes = map (root_inode world) gone ++ map (inode_at world) places;
  groups = groups;
}

-- a mount that goes, or that stands on one and falls to another place
abbrev pub loses_its_place : List ℕ → Mount ℕ → Bool
loses_its_place gone mount =
    is_going nat_eq gone mount.number || holds_of (λ place. is_going nat_eq gone place.mount) mount.mount_point

abbrev pub places_lost : World ℕ → List ℕ → List (Location ℕ)
places_lost world gone = filter_map (λ mount. mount.mount_point) (filter (loses_its_place gone) world.mounts)

-- Where any mounts are taken away, that goes which nothing uses any more of what they used and of the places that they
-- and the mounts on them had, and nothing else. The groups are those that may have lost their last member.
abbrev pub TakingAwayLetsGo : Type 0
TakingAwayLetsGo =
    (world : World ℕ) (gone groups : List ℕ) → IsSettledPlain world
    → GroupsInUseBut groups (taken_away nat_eq world gone)
    → settled nat_eq (taken_away nat_eq world gone)
    ≡ let_go (taken_away nat_eq world gone) (used_by_mounts world gone (places_lost world gone) groups)

-- the mounts of namespaces without tasks
abbrev pub ended_mounts : World ℕ → List ℕ
ended_mounts world = map (λ mount. mount.number) (filter (is_in_ended nat_eq world) world.mounts)

-- So where namespaces end.
abbrev pub EndingLetsGo : Type 0
EndingLetsGo =
    (world : World ℕ) (groups : List ℕ) → IsSettledPlain world
    → GroupsInUseBut groups (namespaces_ended nat_eq world)
    → settled nat_eq (namespaces_ended nat_eq world)
    ≡ let_go (namespaces_ended nat_eq world)
    (used_by_mounts world (ended_mounts world) (places_lost world (ended_mounts world)) groups)

-- a change by which some mounts get other places, in their namespaces, and show what they showed
pub record MovesSome (moved : List ℕ) (change : Mount ℕ → Mount ℕ) : Type 0 where
  pub number : (mount : Mount ℕ) → (change mount).number ≡ mount.number
  pub filesystem : (mount : Mount ℕ) → (change mount).filesystem ≡ mount.filesystem
  pub root : (mount : Mount ℕ) → (change mount).root ≡ mount.root
  pub namespace : (mount : Mount ℕ) → (change mount).namespace ≡ mount.namespace
  pub mount_point : (mount : Mount ℕ) → is_among nat_eq mount.number moved ≡ false → (change mount).mount_point ≡ mount.mount_point

abbrev pub places_moved : World ℕ → List ℕ → List (Location ℕ)
places_moved world moved =
    filter_map (λ mount. mount.mount_point) (filter (λ mount. is_among nat_eq mount.number moved) world.mounts)

-- Then at the most the inodes of their old places go.
abbrev pub MovingLetsGo : Type 0
MovingLetsGo =
    (world : World ℕ) (moved groups : List ℕ) (change : Mount ℕ → Mount ℕ) (master : ℕ → Option ℕ)
    → IsSettledPlain world → MovesSome moved change
    → list_all is_nowhere_or_attached (with_changed world change master).mounts ≡ true
    → GroupsInUseBut groups (with_changed world change master)
    → settled nat_eq (with_changed world change master)
    ≡ let_go (with_changed world change master) (used_by_mounts world [] (places_moved world moved) groups)
