-- What a world's groups say of the world, and what the changes of this crate keep.
use Rattle.std.specs.Prelude.{All, IfSome, None, Option, if◌then◌else◌, map, nat_eq, ℕ, ◌≡◌}
use Rattle.vt_spec.specs.Lists.{Fresh}
use Rattle.vt_spec.specs.Machine.Mounts.{Mount, Propagation, is_unbindable}
use Rattle.vt_spec.specs.Machine.Mounts.Propagation.{Private, Shared, Slave, Unbindable}
use Rattle.vt_spec.specs.Machine.Receives.{regrouped}
use Rattle.vt_spec.specs.Machine.Settled.{without_dead_groups}
use Rattle.vt_spec.specs.Machine.World.{World, opening}
use Rattle.vt_group.specs.Grouping.{Grouping, Has, HasGroup, LacksGroup, below, master_in, no_groups, propagation_in, with_propagation}
use Rattle.vt_laws_mounts.specs.Mounts.Receivers.{AllGroupsLive}

abbrev pub OpeningHasNoGroups : Type 0
OpeningHasNoGroups = (fresh : Fresh ℕ) → Has (opening nat_eq fresh) no_groups

-- the groups of a world are just these
abbrev pub HasOneGrouping : Type 0
HasOneGrouping = (world : World ℕ) (one other : Grouping) → Has world one → Has world other → one ≡ other

-- an unbindable mount shows as private
abbrev pub shown : Propagation ℕ → Propagation ℕ
shown (Shared group) = Shared group
shown (Slave master) = Slave master
shown Private = Private
shown Unbindable = Private

abbrev pub ShowsTypes : Type 0
ShowsTypes =
    (world : World ℕ) (groups : Grouping) → Has world groups
    → All (λ mount. propagation_in groups mount.number ≡ shown mount.propagation) world.mounts

abbrev pub ShowsMasters : Type 0
ShowsMasters =
    (world : World ℕ) (groups : Grouping) (group : ℕ) → Has world groups → HasGroup world group
    → master_in groups group ≡ world.master group

-- A regrouped world has just the types and masters of its groups: the type of each mount is that of the groups, or it
-- is private or unbindable as it was.
abbrev pub typed_by : Grouping → Mount ℕ → Mount ℕ
typed_by groups mount =
    record mount {
      propagation = if is_unbindable mount.propagation then Unbindable
          else propagation_in groups mount.number;
    }

abbrev pub RegroupedIsTyped : Type 0
RegroupedIsTyped =
    (world : World ℕ) (groups : Grouping) → Has (regrouped nat_eq world) groups
    → without_dead_groups nat_eq (regrouped nat_eq world)
    ≡ record world { mounts = map (typed_by groups) world.mounts; master = master_in groups }

-- Groups live on where a mount leaves,
abbrev pub LeavingKeepsGroups : Type 0
LeavingKeepsGroups =
    (world : World ℕ) (mount : ℕ) → AllGroupsLive world
    → AllGroupsLive (regrouped nat_eq (with_propagation world mount Private))

-- becomes a slave,
abbrev pub SlavesKeepGroups : Type 0
SlavesKeepGroups =
    (world : World ℕ) (mount master : ℕ) → AllGroupsLive world → HasGroup world master
    → AllGroupsLive (regrouped nat_eq (with_propagation world mount (Slave master)))

-- joins a group,
abbrev pub JoiningKeepsGroups : Type 0
JoiningKeepsGroups =
    (world : World ℕ) (mount group : ℕ) → AllGroupsLive world → (LacksGroup world group → world.master group ≡ None)
    → AllGroupsLive (regrouped nat_eq (with_propagation world mount (Shared group)))

-- or is the first member of a new one.
abbrev pub StartingKeepsGroups : Type 0
StartingKeepsGroups =
    (world : World ℕ) (mount group : ℕ) (master : Option ℕ) → AllGroupsLive world → LacksGroup world group
    → IfSome master (HasGroup world)
    → AllGroupsLive (regrouped nat_eq (below (with_propagation world mount (Shared group)) group master))
