-- A group that loses its last member hands its slaves on to its master: mount_namespaces(7), "slave".
use Rattle.std.specs.Prelude.{Bool, Option, [], false, if◌then◌else◌, map, nat_eq, option_to_list, true, ℕ, ◌||◌, ◌∷◌, ◌≡◌}
use Rattle.std.specs.List.{list_all, list_any}
use Rattle.vt_spec.specs.Lists.{holds_of}
use Rattle.vt_spec.specs.Machine.Mounts.{Mount, Propagation, source_of}
use Rattle.vt_spec.specs.Machine.Mounts.Propagation.{Private, Shared, Slave, Unbindable}
use Rattle.vt_spec.specs.Machine.Receives.{has_members, lost_a_group, regrouped, slave_of_heir}
use Rattle.vt_spec.specs.Machine.World.{World}
use Rattle.vt_laws_mounts.specs.LettingGo.OneByOne.{GroupsInUseBut}

-- a slave of the group is one of its master, or private where that has none
abbrev pub handed_on : ℕ → Option ℕ → Propagation ℕ → Propagation ℕ
handed_on group heir (Shared own) = Shared own
handed_on group heir (Slave master) = if nat_eq master group then slave_of_heir heir else Slave master
handed_on group heir Private = Private
handed_on group heir Unbindable = Unbindable

abbrev pub mount_handed_on : ℕ → Option ℕ → Mount ℕ → Mount ℕ
mount_handed_on group heir mount = record mount { propagation = handed_on group heir mount.propagation }

abbrev pub master_handed_on : ℕ → Option ℕ → Option ℕ → Option ℕ
master_handed_on group heir master = if holds_of (nat_eq group) master then heir else master

-- the group's slaves, and the groups below it, get its master
abbrev pub hand_on : World ℕ → ℕ → World ℕ
hand_on world group = record world {
  mounts = map (mount_handed_on group (world.master group)) world.mounts;
  master = λ other. master_handed_on group (world.master group) (world.master other);
}

abbrev pub is_group_or_lives : World ℕ → ℕ → ℕ → Bool
is_group_or_lives world group other = nat_eq other group || has_members nat_eq world.mounts other

-- All groups but one live: what a mount is a member or a slave of, and what is the master of a group. That one's own
-- master lives.
pub record GroupsLiveBut (group : ℕ) (world : World ℕ) : Type 0 where
  pub of_mounts : list_all (λ mount.
      list_all (is_group_or_lives world group) (option_to_list (source_of mount.propagation))) world.mounts ≡ true
  pub of_groups : (other : ℕ) → list_all (is_group_or_lives world group) (option_to_list (world.master other)) ≡ true
  pub its_master : list_all (has_members nat_eq world.mounts) (option_to_list (world.master group)) ≡ true
  pub in_use : GroupsInUseBut (group ∷ []) world

-- A group without members hands its slaves on to its master, and nothing else changes.
abbrev pub OneGroupIsHandedOn : Type 0
OneGroupIsHandedOn =
    (world : World ℕ) (group : ℕ) → GroupsLiveBut group world → has_members nat_eq world.mounts group ≡ false
    → regrouped nat_eq world ≡ hand_on world group

-- While no mount lost its group or a master, all stay as they are.
abbrev pub NoGroupIsHandedOn : Type 0
NoGroupIsHandedOn =
    (world : World ℕ) → list_any (lost_a_group nat_eq world) world.mounts ≡ false → regrouped nat_eq world ≡ world
