-- Who hears of an event in a peer group: the kernel's document sharedsubtree, "Propagation", and mount_namespaces(7).
use Rattle.std.specs.Prelude.{All, Bool, Contains, Some, true, ℕ, nat_eq, ◌↔◌, ◌≡◌}
use Rattle.std.specs.List.{list_all}
use Rattle.vt_spec.specs.Machine.Mounts.{Mount}
use Rattle.vt_spec.specs.Machine.Mounts.Propagation.{Shared, Slave}
use Rattle.vt_spec.specs.Machine.Receives.{Receives, receivers, receives}
use Rattle.vt_spec.specs.Machine.World.{World}
use Rattle.vt_spec.specs.Machine.Invariants.{HasLivingGroups, has_living_groups}

-- the group or master of each mount has members, and so has each group up the masters, which come to an end
abbrev pub GroupsLive : World ℕ → Type 0
GroupsLive world = list_all (has_living_groups nat_eq world) world.mounts ≡ true

-- The group or master of each mount lives; that is what the test of it computes.
abbrev pub AllGroupsLive : World ℕ → Type 0
AllGroupsLive world = All (HasLivingGroups nat_eq world) world.mounts

abbrev pub LivingIsComputed : Type 0
LivingIsComputed = (world : World ℕ) → GroupsLive world ↔ AllGroupsLive world

-- A mount is found to receive from a group just where it does: as a member of it, as a slave of it, or because it
-- receives from a group whose master it is.
abbrev pub ReceivesIsComputed : Type 0
ReceivesIsComputed =
    (world : World ℕ) (group : ℕ) → GroupsLive world
    → All (λ mount. (receives nat_eq world group mount ≡ true) ↔ Receives world group mount) world.mounts

-- The receivers of a group are the mounts that receive from it, and no others.
abbrev pub ReceiversReceive : Type 0
ReceiversReceive =
    (world : World ℕ) (group : ℕ) (mount : Mount ℕ) → GroupsLive world
    → Contains (receivers nat_eq world group) mount ↔ (Contains world.mounts mount × Receives world group mount)

-- A set of mounts for each group that holds its members, its slaves, and those of every group whose master it is
pub record IsClosed (world : World ℕ) (set : ℕ → Mount ℕ → Bool) : Type 0 where
  pub members : (group : ℕ) → All (λ mount. mount.propagation ≡ Shared group → set group mount ≡ true) world.mounts
  pub slaves : (group : ℕ) → All (λ mount. mount.propagation ≡ Slave group → set group mount ≡ true) world.mounts
  pub further_down : (group lower : ℕ) → world.master lower ≡ Some group
      → All (λ mount. set lower mount ≡ true → set group mount ≡ true) world.mounts

-- What receives is such a set,
abbrev pub ReceiversAreClosed : Type 0
ReceiversAreClosed = (world : World ℕ) → GroupsLive world → IsClosed world (receives nat_eq world)

-- and the least of them: it lies in each.
abbrev pub ReceiversAreLeast : Type 0
ReceiversAreLeast =
    (world : World ℕ) (set : ℕ → Mount ℕ → Bool) (group : ℕ) → IsClosed world set
    → All (λ mount. receives nat_eq world group mount ≡ true → set group mount ≡ true) world.mounts
