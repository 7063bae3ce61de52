-- What goes after an unmount, a lazy one too, and with the mounts on a removed directory: umount(2), also with
-- MNT_DETACH, rmdir(2).
use Rattle.std.specs.Prelude.{Bool, List, filter, filter_map, flat_map, is_some, map, nat_eq, not, ℕ, ◌&&◌, ◌≡◌}
use Rattle.vt_spec.specs.Lists.{Fresh, is_among}
use Rattle.vt_spec.specs.Machine.Apply.{apply}
use Rattle.vt_spec.specs.Machine.Detach.{going, mounts_on, trees_taken_away, without_mounts_on}
use Rattle.vt_spec.specs.Machine.Mounts.{Location, Mount, group_of, mount_tree}
use Rattle.vt_spec.specs.Machine.Permits.Permit.{ToUnmount, ToUnmountLazily}
use Rattle.vt_spec.specs.Machine.Settled.{settled}
use Rattle.vt_spec.specs.Machine.World.{Task, World, mount_numbered}
use Rattle.vt_laws_mounts.specs.LettingGo.Attaching.{is_attached}
use Rattle.vt_laws_mounts.specs.LettingGo.Leaving.{IsSettledPlain}
use Rattle.vt_laws_mounts.specs.LettingGo.Mounting.{places_lost, used_by_mounts}
use Rattle.vt_laws_mounts.specs.LettingGo.OneByOne.{Losers, let_go}

-- the groups of the mounts of these numbers
abbrev pub groups_of_mounts : World ℕ → List ℕ → List ℕ
groups_of_mounts world numbers =
    filter_map (λ mount. group_of mount.propagation)
    (filter (λ mount. is_among nat_eq mount.number numbers) world.mounts)

-- What mounts that go used: filesystems and roots, mount points, also of mounts on them, and groups
abbrev pub used_by_gone : World ℕ → List ℕ → Losers
used_by_gone world gone = used_by_mounts world gone (places_lost world gone) (groups_of_mounts world gone)

-- An unmount with all its receivers: of what the mounts that it takes used, that goes which nothing uses any more.
abbrev pub UnmountsLetGo : Type 0
UnmountsLetGo =
    (fresh : Fresh ℕ) (world : World ℕ) (task : Task ℕ) (mount : ℕ) → IsSettledPlain world
    → settled nat_eq (apply nat_eq fresh world task (ToUnmount mount)).world
    ≡ let_go (apply nat_eq fresh world task (ToUnmount mount)).world
    (used_by_gone world (going nat_eq world (mount_numbered nat_eq world mount)))

-- the mount is in a namespace of the one world, and in none of the other
abbrev pub is_detached_in : World ℕ → Mount ℕ → Bool
is_detached_in after mount = is_some mount.namespace && not (is_attached after mount.number)

abbrev pub detached_between : World ℕ → World ℕ → List ℕ
detached_between world after = map (λ mount. mount.number) (filter (is_detached_in after) world.mounts)

-- A lazy unmount, which is one event after the other: the same, of all mounts that some event detached.
abbrev pub LazyUnmountsLetGo : Type 0
LazyUnmountsLetGo =
    (fresh : Fresh ℕ) (world : World ℕ) (task : Task ℕ) (mount : ℕ) → IsSettledPlain world
    → settled nat_eq (apply nat_eq fresh world task (ToUnmountLazily mount)).world
    ≡ let_go (apply nat_eq fresh world task (ToUnmountLazily mount)).world
    (used_by_gone world (detached_between world (apply nat_eq fresh world task (ToUnmountLazily mount)).world))

-- the numbers of mounts and of all below them
abbrev pub numbers_of_trees : World ℕ → List (Mount ℕ) → List ℕ
numbers_of_trees world mounts = map (λ mount. mount.number) (flat_map (mount_tree nat_eq world.mounts) mounts)

-- Trees of mounts that are detached without propagation: the same, of all their mounts,
abbrev pub TreesLetGo : Type 0
TreesLetGo =
    (world : World ℕ) (mounts : List (Mount ℕ)) → IsSettledPlain world
    → settled nat_eq (trees_taken_away nat_eq world mounts)
    ≡ let_go (trees_taken_away nat_eq world mounts) (used_by_gone world (numbers_of_trees world mounts))

-- as those on a directory that is removed, in every namespace.
abbrev pub MountsOnDirectoriesLetGo : Type 0
MountsOnDirectoriesLetGo =
    (world : World ℕ) (directory : Location ℕ) → IsSettledPlain world
    → settled nat_eq (without_mounts_on nat_eq world directory)
    ≡ let_go (without_mounts_on nat_eq world directory)
    (used_by_gone world (numbers_of_trees world (mounts_on nat_eq world directory)))
