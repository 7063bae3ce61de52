-- What contracts see of peer groups, and which worlds have them: mount_namespaces(7), and the kernel's document
-- sharedsubtree.
use Rattle.std.specs.Prelude.{Bool, Contains, List, Option, [], filter_map, if◌then◌else◌, false, map, nat_eq, nat_lt, option_map, true, unwrap_or, ℕ, ◌&&◌, ◌∷◌, ◌≡◌}
use Rattle.std.specs.List.{list_all}
use Rattle.std.specs.Map.{lookup}
use Rattle.vt_spec.specs.Machine.Mounts.{Mount, Propagation, source_of}
use Rattle.vt_spec.specs.Machine.Mounts.Propagation.{Private}
use Rattle.vt_spec.specs.Machine.Receives.{has_members, regrouped}
use Rattle.vt_spec.specs.Machine.Settled.{without_dead_groups}
use Rattle.vt_spec.specs.Machine.Types.{with_master}
use Rattle.vt_spec.specs.Machine.World.{World}
use Rattle.vt_laws_mounts.specs.Mounts.Attaching.{numbers_of}
use Rattle.vt_laws_mounts.specs.Mounts.Receivers.{AllGroupsLive}

-- The mounts that are in a group or slaves of one, in order of attachment, and the groups that have a master.
pub record Grouping : Type 0 where
  pub peers : List (ℕ × Propagation ℕ)
  pub masters : List (ℕ × ℕ)

abbrev pub no_groups : Grouping
no_groups = record { peers = []; masters = [] }

-- the propagation type of a mount; one that is unbindable shows as private
abbrev pub propagation_in : Grouping → ℕ → Propagation ℕ
propagation_in groups mount = unwrap_or (lookup (nat_eq mount) groups.peers) Private

abbrev pub master_in : Grouping → ℕ → Option ℕ
master_in groups group = lookup (nat_eq group) groups.masters

-- Worlds

-- a mount that is shared or a slave, with its type
abbrev pub peer_of : Mount ℕ → Option (ℕ × Propagation ℕ)
peer_of mount = option_map (λ source. (mount.number, mount.propagation)) (source_of mount.propagation)

abbrev pub peers_of : List (Mount ℕ) → List (ℕ × Propagation ℕ)
peers_of mounts = filter_map peer_of mounts

-- each number is greater than those before it
abbrev pub are_rising : List ℕ → Bool
are_rising [] = true
are_rising (number ∷ rest) = list_all (nat_lt number) rest && are_rising rest

-- A world has these groups. What it says of the master of a group without members does not count.
pub record Has (world : World ℕ) (groups : Grouping) : Type 0 where
  pub order : are_rising (numbers_of world.mounts) ≡ true
  pub peers : groups.peers ≡ peers_of world.mounts
  pub masters_order : are_rising (map (λ entry. entry.0) groups.masters) ≡ true
  pub masters : (group : ℕ) → master_in groups group ≡ (without_dead_groups nat_eq world).master group

-- the world with another type of one mount
abbrev pub retyped_if : ℕ → Propagation ℕ → Mount ℕ → Mount ℕ
retyped_if number kind mount = if nat_eq number mount.number then record mount { propagation = kind } else mount

abbrev pub with_propagation : World ℕ → ℕ → Propagation ℕ → World ℕ
with_propagation world number kind = record world { mounts = map (retyped_if number kind) world.mounts }

-- the world with this master of a group, or none
abbrev pub below : World ℕ → ℕ → Option ℕ → World ℕ
below world group master = record world { master = with_master nat_eq world.master group master }

-- What a change of groups follows: each living world that had the groups, and that the change is of, has those that are
-- left once it is changed so and regrouped.
abbrev pub Follows : Grouping → Grouping → (World ℕ → Type 0) → (World ℕ → World ℕ) → Type 0
Follows old new IsOf change =
    (world : World ℕ) → Has world old → AllGroupsLive world → IsOf world → Has (regrouped nat_eq (change world)) new

abbrev pub HasMount : World ℕ → ℕ → Type 0
HasMount world mount = Contains (numbers_of world.mounts) mount

abbrev pub HasGroup : World ℕ → ℕ → Type 0
HasGroup world group = has_members nat_eq world.mounts group ≡ true

abbrev pub LacksGroup : World ℕ → ℕ → Type 0
LacksGroup world group = has_members nat_eq world.mounts group ≡ false
