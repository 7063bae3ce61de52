-- What goes when tasks leave places: close(2), chdir(2), chroot(2), setns(2), _exit(2).
use Rattle.std.specs.Prelude.{Bool, List, [], false, flat_map, is_some, map, nat_eq, option_to_list, true, ℕ, ◌&&◌, ◌||◌, ◌∷◌, ◌≡◌}
use Rattle.std.specs.List.{list_all, list_any}
use Rattle.vt_spec.specs.Lists.{any_pair, folded}
use Rattle.vt_spec.specs.Machine.Mounts.{Location, Mount, same_location}
use Rattle.vt_spec.specs.Machine.Settled.{settled}
use Rattle.vt_spec.specs.Machine.World.{Task, World, all_locations, mount_at}
use Rattle.vt_spec.specs.Machine.Invariants.{is_nowhere_or_attached}
use Rattle.vt_laws_mounts.specs.LettingGo.InUse.{AllInUse, HasTrees}
use Rattle.vt_laws_mounts.specs.LettingGo.OneByOne.{Inode, IsPlain, Losers, let_go}

-- the mount that a place is on is in a namespace
abbrev pub stands_on_attached : World ℕ → Mount ℕ → Bool
stands_on_attached world mount =
    list_all (λ place. is_some (mount_at nat_eq world place).namespace) (option_to_list mount.mount_point)

-- Of mounts: each has a number of its own, one outside every namespace has no place and is private, and a place is on a
-- mount in a namespace.
pub record MountsStand (world : World ℕ) : Type 0 where
  pub one_number : any_pair (λ (a b : Mount ℕ). nat_eq a.number b.number) world.mounts ≡ false
  pub nowhere : list_all is_nowhere_or_attached world.mounts ≡ true
  pub on_attached : list_all (stands_on_attached world) world.mounts ≡ true

-- a world of plain filesystems in which all is in use
pub record IsSettledPlain (world : World ℕ) : Type 0 where
  pub in_use : AllInUse world
  pub plain : IsPlain world
  pub trees : HasTrees world
  pub mounts : MountsStand world

abbrev pub with_tasks : World ℕ → List (Task ℕ) → World ℕ
with_tasks world tasks = record world { tasks = tasks }

abbrev pub is_location_among : List (Location ℕ) → Location ℕ → Bool
is_location_among list location = list_any (same_location nat_eq location) list

-- each root, working directory and descriptor of the world is one still, or is among those that were left
abbrev pub only_these_are_left : World ℕ → List (Task ℕ) → List (Location ℕ) → Bool
only_these_are_left world tasks left =
    list_all (λ location.
    is_location_among (all_locations (with_tasks world tasks)) location || is_location_among left location)
    (all_locations world)

-- what a location that is left used: its mount, its inode, and through the mount a filesystem and the mount's root
abbrev pub inodes_of_location : World ℕ → Location ℕ → List Inode
inodes_of_location world location =
    ((mount_at nat_eq world location).filesystem, location.node)
    ∷ ((mount_at nat_eq world location).filesystem, (mount_at nat_eq world location).root) ∷ []

abbrev pub used_by_locations : World ℕ → List (Location ℕ) → Losers
used_by_locations world left = record {
  mounts = map (λ location. location.mount) left;
  filesystems = map (λ location. (mount_at nat_eq world location).filesystem) left;
  inodes = flat_map (inodes_of_location world) left;
  groups = [];
}

-- A change of tasks: of what the locations that were left used, that goes which nothing uses any more, and nothing
-- else. The tasks may have come to other places, and any number of places may have been left at once.
abbrev pub LeavingLetsGo : Type 0
LeavingLetsGo =
    (world : World ℕ) (tasks : List (Task ℕ)) (left : List (Location ℕ)) → IsSettledPlain world
    → only_these_are_left world tasks left ≡ true
    → settled nat_eq (with_tasks world tasks) ≡ let_go (with_tasks world tasks) (used_by_locations world left)

-- Where no place was left, nothing goes: fork(2), open(2) without creation, umask(2).
abbrev pub StayingKeepsAll : Type 0
StayingKeepsAll =
    (world : World ℕ) (tasks : List (Task ℕ)) → IsSettledPlain world → only_these_are_left world tasks [] ≡ true
    → settled nat_eq (with_tasks world tasks) ≡ with_tasks world tasks

-- the tasks are at no place where no task of the world was
abbrev pub comes_nowhere : World ℕ → List (Task ℕ) → Bool
comes_nowhere world tasks = list_all (is_location_among (all_locations world)) (all_locations (with_tasks world tasks))

-- Where tasks only leave locations, a sweep before that makes no difference after the sweep that follows: locations may
-- be left one by one, each with a sweep, or all at once, with one.
abbrev pub OneSweepForSeveral : Type 0
OneSweepForSeveral =
    (world : World ℕ) (tasks : List (Task ℕ)) → IsPlain world → HasTrees world → MountsStand world
    → comes_nowhere world tasks ≡ true
    → settled nat_eq (with_tasks (settled nat_eq world) tasks) ≡ settled nat_eq (with_tasks world tasks)

-- none of these changes, one after the other, brings a task to a new place
abbrev pub each_comes_nowhere : World ℕ → List (List (Task ℕ)) → Bool
each_comes_nowhere world [] = true
each_comes_nowhere world (tasks ∷ rest) =
    comes_nowhere world tasks && each_comes_nowhere (with_tasks world tasks) rest

-- the world after these changes, one after the other, with a sweep after each
abbrev pub with_sweeps : {A : Type 0} → (World ℕ → A → World ℕ) → World ℕ → List A → World ℕ
with_sweeps change world list = folded (λ now a. settled nat_eq (change now a)) world list

-- So for any number of changes: in a world that is swept, places are left with a sweep after each change, or all
-- changes are made, with one sweep at the end.
abbrev pub OneSweepForAll : Type 0
OneSweepForAll =
    (world : World ℕ) (changes : List (List (Task ℕ))) → IsPlain world → HasTrees world → MountsStand world
    → each_comes_nowhere world changes ≡ true
    → with_sweeps with_tasks (settled nat_eq world) changes ≡ settled nat_eq (folded with_tasks world changes)
