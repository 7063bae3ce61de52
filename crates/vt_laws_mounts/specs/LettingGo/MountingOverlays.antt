-- What goes after a change of mounts in worlds with overlays: what an overlay used goes with the overlay's last use.
-- The kernel's overlayfs document, umount(2), mount(2) with MS_MOVE, pivot_root(2).
use Rattle.std.specs.List.{list_all}
use Rattle.std.specs.Prelude.{List, Option, [], flat_map, map, nat_eq, true, ℕ, ◌++◌, ◌∷◌, ◌≡◌}
use Rattle.vt_spec.specs.Lists.{Fresh}
use Rattle.vt_spec.specs.Machine.Apply.{apply}
use Rattle.vt_spec.specs.Machine.Detach.{going, mounts_on, taken_away, without_mounts_on}
use Rattle.vt_spec.specs.Machine.Mounts.{Location, Mount}
use Rattle.vt_spec.specs.Machine.Namespaces.{namespaces_ended}
use Rattle.vt_spec.specs.Machine.Permits.Permit.{ToMove, ToPivot, ToUnmount, ToUnmountLazily}
use Rattle.vt_spec.specs.Machine.Settled.{settled}
use Rattle.vt_spec.specs.Machine.World.{Task, World, mount_numbered}
use Rattle.vt_spec.specs.Machine.Invariants.{is_nowhere_or_attached}
use Rattle.vt_laws_mounts.specs.LettingGo.Attaching.{inodes_of_mount_point, is_attached}
use Rattle.vt_laws_mounts.specs.LettingGo.Detaching.{with_changed}
use Rattle.vt_laws_mounts.specs.LettingGo.Keeping.{LocationsStand}
use Rattle.vt_laws_mounts.specs.LettingGo.Unmounting.{detached_between, groups_of_mounts, numbers_of_trees}
use Rattle.vt_laws_mounts.specs.LettingGo.LeavingOverlays.{IsSettled, filesystems_of_layers}
use Rattle.vt_laws_mounts.specs.LettingGo.Mounting.{MovesSome, ended_mounts, inode_at, places_lost, places_moved, root_inode}
use Rattle.vt_laws_mounts.specs.LettingGo.OneByOne.{GroupsInUseBut, Losers}
use Rattle.vt_laws_mounts.specs.LettingGo.Overlays.{let_go_all, let_go_all_inodes, used_by_filesystems}

-- the filesystem of a mount, and those that its layers are in
abbrev pub filesystems_of_mount : World ℕ → ℕ → List ℕ
filesystems_of_mount world number =
    (mount_numbered nat_eq world number).filesystem
    ∷ filesystems_of_layers world (mount_numbered nat_eq world number).filesystem

-- What mounts used that may go, and what overlays among that used, and the inodes of mount points that were left
abbrev pub used_by_mounts_with_layers : World ℕ → List ℕ → List (Location ℕ) → List ℕ → Losers
used_by_mounts_with_layers world gone places groups = record {
  mounts = gone;
  filesystems = flat_map (filesystems_of_mount world) gone;
  inodes = map (root_inode world) gone ++ map (inode_at world) places
      ++ used_by_filesystems world (flat_map (filesystems_of_mount world) gone);
  groups = groups;
}

-- Where any mounts are taken away, and what an overlay used goes with the overlay's last use: of that, that goes which
-- nothing uses any more, and nothing else.
abbrev pub TakingAwayWithOverlaysLetsGo : Type 0
TakingAwayWithOverlaysLetsGo =
    (world : World ℕ) (gone groups : List ℕ) → IsSettled world
    → GroupsInUseBut groups (taken_away nat_eq world gone)
    → settled nat_eq (taken_away nat_eq world gone)
    ≡ let_go_all (taken_away nat_eq world gone) (used_by_mounts_with_layers world gone (places_lost world gone) groups)

-- Where namespaces end: the same, of the mounts in them.
abbrev pub EndingWithOverlaysLetsGo : Type 0
EndingWithOverlaysLetsGo =
    (world : World ℕ) (groups : List ℕ) → IsSettled world → GroupsInUseBut groups (namespaces_ended nat_eq world)
    → settled nat_eq (namespaces_ended nat_eq world)
    ≡ let_go_all (namespaces_ended nat_eq world)
    (used_by_mounts_with_layers world (ended_mounts world) (places_lost world (ended_mounts world)) groups)

-- Where some mounts get other mount points, at the most the inodes of their old ones go.
abbrev pub MovingWithOverlaysLetsGo : Type 0
MovingWithOverlaysLetsGo =
    (world : World ℕ) (moved groups : List ℕ) (change : Mount ℕ → Mount ℕ) (master : ℕ → Option ℕ)
    → IsSettled world → MovesSome moved change
    → list_all is_nowhere_or_attached (with_changed world change master).mounts ≡ true
    → GroupsInUseBut groups (with_changed world change master)
    → settled nat_eq (with_changed world change master)
    ≡ let_go_all (with_changed world change master)
    (used_by_mounts_with_layers world [] (places_moved world moved) groups)

-- What mounts that go used, with what overlays among that used, and their groups
abbrev pub used_by_gone_with_layers : World ℕ → List ℕ → Losers
used_by_gone_with_layers world gone =
    used_by_mounts_with_layers world gone (places_lost world gone) (groups_of_mounts world gone)

-- An unmount with its receivers,
abbrev pub UnmountsWithOverlaysLetGo : Type 0
UnmountsWithOverlaysLetGo =
    (fresh : Fresh ℕ) (world : World ℕ) (task : Task ℕ) (mount : ℕ) → IsSettled world
    → settled nat_eq (apply nat_eq fresh world task (ToUnmount mount)).world
    ≡ let_go_all (apply nat_eq fresh world task (ToUnmount mount)).world
    (used_by_gone_with_layers world (going nat_eq world (mount_numbered nat_eq world mount)))

-- a lazy one,
abbrev pub LazyUnmountsWithOverlaysLetGo : Type 0
LazyUnmountsWithOverlaysLetGo =
    (fresh : Fresh ℕ) (world : World ℕ) (task : Task ℕ) (mount : ℕ) → IsSettled world
    → settled nat_eq (apply nat_eq fresh world task (ToUnmountLazily mount)).world
    ≡ let_go_all (apply nat_eq fresh world task (ToUnmountLazily mount)).world
    (used_by_gone_with_layers world
    (detached_between world (apply nat_eq fresh world task (ToUnmountLazily mount)).world))

-- and the mounts on a removed directory, with all below them.
abbrev pub MountsOnDirectoriesWithOverlaysLetGo : Type 0
MountsOnDirectoriesWithOverlaysLetGo =
    (world : World ℕ) (directory : Location ℕ) → IsSettled world
    → settled nat_eq (without_mounts_on nat_eq world directory)
    ≡ let_go_all (without_mounts_on nat_eq world directory)
    (used_by_gone_with_layers world (numbers_of_trees world (mounts_on nat_eq world directory)))

-- A move, with copies at receivers,
abbrev pub MovesWithOverlaysLetGo : Type 0
MovesWithOverlaysLetGo =
    (fresh : Fresh ℕ) (world : World ℕ) (task : Task ℕ) (mount : ℕ) (place : Location ℕ)
    → IsSettled world → LocationsStand world → is_attached world place.mount ≡ true → is_attached world mount ≡ true
    → settled nat_eq (apply nat_eq fresh world task (ToMove mount place)).world
    ≡ let_go_all_inodes (apply nat_eq fresh world task (ToMove mount place)).world
    (inodes_of_mount_point world (mount_numbered nat_eq world mount))

-- and pivot_root: at the most the inode of one mount point, with its upper inode.
abbrev pub PivotsWithOverlaysLetGo : Type 0
PivotsWithOverlaysLetGo =
    (fresh : Fresh ℕ) (world : World ℕ) (task : Task ℕ) (new : ℕ) (put : Location ℕ)
    → IsSettled world → is_attached world task.root.mount ≡ true → is_attached world new ≡ true
    → settled nat_eq (apply nat_eq fresh world task (ToPivot new put)).world
    ≡ let_go_all_inodes (apply nat_eq fresh world task (ToPivot new put)).world
    (inodes_of_mount_point world (mount_numbered nat_eq world new))
