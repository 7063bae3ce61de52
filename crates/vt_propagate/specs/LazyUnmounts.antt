-- Lazy unmounts: the mounts that the events detach one after the other may as well go all at once.
use Rattle.std.specs.Prelude.{All, Contains, List, [], flat_map, if◌then◌else◌, is_some, nat_eq, true, ℕ, ◌++◌, ◌∷◌, ◌≡◌}
use Rattle.vt_spec.specs.Machine.Detach.{deepest_first, going, lazily_unmounted, taken_away, unmounted_if_there}
use Rattle.vt_spec.specs.Machine.Invariants.{MountInvariants}
use Rattle.vt_spec.specs.Machine.Mounts.{Mount, mount_tree}
use Rattle.vt_spec.specs.Machine.Settled.{settled, without_dead_groups}
use Rattle.vt_spec.specs.Machine.World.{World, mount_numbered}
use Rattle.vt_group.specs.Grouping.{Grouping}
use Rattle.vt_laws_mounts.specs.LettingGo.InUse.{HasTrees, UppersArePlain}
use Rattle.vt_laws_mounts.specs.LettingGo.Leaving.{with_sweeps}
use Rattle.vt_laws_mounts.specs.LettingGo.Overlays.{RealsAreThere}
use Rattle.vt_laws_mounts.specs.LettingGo.Several.{KeepsMounts}
use Rattle.vt_mount.specs.MountsValue.{MountEntry}
use Rattle.vt_propagate.specs.Seen.{IsSeen}

-- the mounts that one event detaches: none, where an earlier event detached its mount
abbrev pub going_if_there : World ℕ → Mount ℕ → List ℕ
going_if_there world mount =
    if is_some (mount_numbered nat_eq world mount.number).namespace
    then going nat_eq world (mount_numbered nat_eq world mount.number) else []

-- the mounts that these events detach in turn
abbrev pub gone_by : World ℕ → List (Mount ℕ) → List ℕ
gone_by world [] = []
gone_by world (mount ∷ rest) = going_if_there world mount ++ gone_by (unmounted_if_there nat_eq world mount) rest

-- the events of a lazy unmount, in their order
abbrev pub lazy_events : World ℕ → ℕ → List (Mount ℕ)
lazy_events world number =
    deepest_first nat_eq world (mount_tree nat_eq world.mounts (mount_numbered nat_eq world number))

abbrev pub gone_lazily : World ℕ → ℕ → List ℕ
gone_lazily world number = gone_by world (lazy_events world number)

-- Mounts that are detached in two parts may as well go at once. What the two worlds say of the master of a group
-- without members may differ, and does not count: the group ends as a world is settled.
abbrev pub PartsGoAtOnce : Type 0
PartsGoAtOnce =
    (world : World ℕ) (first second : List ℕ) → MountInvariants nat_eq world
    → without_dead_groups nat_eq (taken_away nat_eq (taken_away nat_eq world first) second)
    ≡ without_dead_groups nat_eq (taken_away nat_eq world (first ++ second))

-- So a lazy unmount leaves the world from which all that its events detach was taken at once.
abbrev pub LazyUnmountsAreAtOnce : Type 0
LazyUnmountsAreAtOnce =
    (world : World ℕ) (number : ℕ) → MountInvariants nat_eq world
    → without_dead_groups nat_eq (lazily_unmounted nat_eq world number)
    ≡ without_dead_groups nat_eq (taken_away nat_eq world (gone_lazily world number))

-- Among them is each mount of the tree.
abbrev pub LazyUnmountsTakeTheTree : Type 0
LazyUnmountsTakeTheTree =
    (world : World ℕ) (number : ℕ) → MountInvariants nat_eq world
    → is_some (mount_numbered nat_eq world number).namespace ≡ true
    → All (λ mount. Contains (gone_lazily world number) mount.number)
    (mount_tree nat_eq world.mounts (mount_numbered nat_eq world number))

-- Mounts and groups that are those of the one world are those of the other,
abbrev pub LazyUnmountsAreSeen : Type 0
LazyUnmountsAreSeen =
    (world : World ℕ) (number : ℕ) (kept : List MountEntry) (now : Grouping) → MountInvariants nat_eq world
    → IsSeen (taken_away nat_eq world (gone_lazily world number)) kept now
    → IsSeen (lazily_unmounted nat_eq world number) kept now

-- and the two settle to one.
abbrev pub LazyUnmountsSettleAlike : Type 0
LazyUnmountsSettleAlike =
    (world : World ℕ) (number : ℕ) → MountInvariants nat_eq world
    → settled nat_eq (lazily_unmounted nat_eq world number)
    ≡ settled nat_eq (taken_away nat_eq world (gone_lazily world number))

-- Mounts are taken away in parts with a sweep after each, or all at once with one sweep: the same world is left, where
-- the invariants of mounts hold on the way.
abbrev pub PartsAreSweptOnce : Type 0
PartsAreSweptOnce =
    (world : World ℕ) (parts : List (List ℕ)) → HasTrees world → UppersArePlain world → RealsAreThere world
    → KeepsMounts (taken_away nat_eq) world parts
    → with_sweeps (taken_away nat_eq) (settled nat_eq world) parts
    ≡ settled nat_eq (taken_away nat_eq world (flat_map (λ part. part) parts))
