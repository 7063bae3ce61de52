-- Several mounts change at once, and the groups without members end once: umount(2), mount(2) with MS_REC.
use Rattle.std.specs.Prelude.{All, Bool, Contains, List, None, Option, Some, if◌then◌else◌, is_some, map, nat_eq, option_map, true, ℕ, ◌≡◌}
use Rattle.std.specs.BTreeMap.{insert_entry}
use Rattle.std.specs.Map.{remove_entry}
use Rattle.std.specs.Ordering.{nat_cmp}
use Rattle.vt_spec.specs.Language.Calls.{TypeWord}
use Rattle.vt_spec.specs.Language.Calls.TypeWord.{ToShared, ToSlave}
use Rattle.vt_spec.specs.Lists.{folded, is_among}
use Rattle.vt_spec.specs.Machine.Detach.{taken_away}
use Rattle.vt_spec.specs.Machine.Attach.{masters_with}
use Rattle.vt_spec.specs.Machine.Mounts.{Mount, Propagation, source_of}
use Rattle.vt_spec.specs.Machine.Mounts.Propagation.{Private}
use Rattle.vt_spec.specs.Machine.Types.{master_after, retyped, type_after}
use Rattle.vt_spec.specs.Machine.World.{World}
use Rattle.vt_location.specs.declared.mounts.Mount.{Mount as CodeMount}
use Rattle.vt_location.specs.declared.numbers.GroupId.{GroupId}
use Rattle.vt_location.specs.declared.numbers.MountId.{MountId}
use Rattle.vt_location.specs.MountValue.{propagation_of}
use Rattle.vt_location.specs.Numbers.{counted, group_number}
use Rattle.vt_group.specs.declared.groups.NewGroup.{NewGroup}
use Rattle.vt_group.specs.Grouping.{Grouping, Has, HasGroup, LacksGroup, are_rising, peers_of, propagation_in}
use Rattle.vt_laws_mounts.specs.Mounts.Attaching.{numbers_of}
use Rattle.vt_laws_mounts.specs.Mounts.Receivers.{AllGroupsLive}

-- What a change of the type of all these mounts follows: each living world that had the groups has those that are left.
-- The numbers of new groups are of no group that is there.
abbrev pub Retypes : Grouping → Grouping → TypeWord → List ℕ → Type 0
Retypes old new word numbers =
    (world : World ℕ) (group : ℕ → ℕ) (named : List (Mount ℕ)) → Has world old → AllGroupsLive world
    → numbers_of named ≡ numbers
    → ((number : ℕ) → LacksGroup world (group number)) → Has (retyped nat_eq world group word named) new

-- each mount has one type
abbrev pub is_ordered : Grouping → Bool
is_ordered groups = are_rising (map (λ peer. peer.0) groups.peers)

-- and where all these mounts are detached
abbrev pub TakesAway : Grouping → Grouping → List ℕ → Type 0
TakesAway old new numbers =
    (world : World ℕ) → Has world old → AllGroupsLive world → Has (taken_away nat_eq world numbers) new

-- the world with the types of some mounts changed, and no group ended
abbrev pub changed_if : (Propagation ℕ → Propagation ℕ) → List ℕ → Mount ℕ → Mount ℕ
changed_if change numbers mount =
    if is_among nat_eq mount.number numbers then record mount { propagation = change mount.propagation } else mount

abbrev pub with_changed : (Propagation ℕ → Propagation ℕ) → World ℕ → List ℕ → World ℕ
with_changed change world numbers = record world { mounts = map (changed_if change numbers) world.mounts }

-- a type that is private, and that of a member which becomes a slave of its group
abbrev pub as_private : Propagation ℕ → Propagation ℕ
as_private kind = Private

abbrev pub as_slave : Propagation ℕ → Propagation ℕ
as_slave kind = type_after 0 ToSlave kind

-- Mounts that come, or get a type where they had none or were slaves, and the groups that are new

-- the peers, with the type of one more mount, if that is shared or a slave
abbrev pub if_sourced : Option ℕ → List (ℕ × Propagation ℕ) → List (ℕ × Propagation ℕ) → List (ℕ × Propagation ℕ)
if_sourced None peers more = peers
if_sourced (Some source) peers more = more

abbrev pub with_type_of : List (ℕ × Propagation ℕ) → ℕ × Propagation ℕ → List (ℕ × Propagation ℕ)
with_type_of peers new = if_sourced (source_of new.1) peers (insert_entry nat_cmp peers new.0 new.1)

-- the entries of masters, with that of one group replaced
abbrev pub with_entry_of : ℕ → Option ℕ → List (ℕ × ℕ) → List (ℕ × ℕ)
with_entry_of group None masters = remove_entry (nat_eq group) masters
with_entry_of group (Some master) masters = insert_entry nat_cmp masters group master

abbrev pub with_master_of : List (ℕ × ℕ) → ℕ × Option ℕ → List (ℕ × ℕ)
with_master_of masters new = with_entry_of new.0 new.1 masters

abbrev pub all_added : Grouping → List (ℕ × Propagation ℕ) → List (ℕ × Option ℕ) → Grouping
all_added groups types new =
    record { peers = folded with_type_of groups.peers types; masters = folded with_master_of groups.masters new }

-- A world grows: some mounts get types, no group loses its last member, and each group that gets its first member is
-- new.
pub record Grows (world after : World ℕ) (types : List (ℕ × Propagation ℕ)) (new : List (ℕ × Option ℕ)) : Type 0 where
  pub order : are_rising (numbers_of after.mounts) ≡ true
  pub peers : peers_of after.mounts ≡ folded with_type_of (peers_of world.mounts) types
  pub master : (group : ℕ) → after.master group ≡ folded (masters_with nat_eq) world.master new group
  pub stay : (group : ℕ) → HasGroup world group → HasGroup after group
  pub begin : All (λ entry. is_some entry.1 ≡ true → HasGroup after entry.0) new
  pub named : (group : ℕ) → LacksGroup world group → HasGroup after group
      → is_among nat_eq group (map (λ entry. entry.0) new) ≡ true

-- each world that had the groups, and grows so, has the new ones: an attachment has no groups to end
abbrev pub GrowsTo : Grouping → Grouping → List (ℕ × Propagation ℕ) → List (ℕ × Option ℕ) → Type 0
GrowsTo old new types groups = (world after : World ℕ) → Has world old → Grows world after types groups → Has after new

abbrev pub typed : CodeMount → ℕ × Propagation ℕ
typed mount = (counted mount.number.count, propagation_of mount.propagation)

abbrev pub new_group : NewGroup → ℕ × Option ℕ
new_group new = (group_number new.group, option_map group_number new.master)

-- What a change of these mounts to shared follows, each with the number of a group for it, if it needs one.
abbrev pub Shares : Grouping → Grouping → List (ℕ × ℕ) → Type 0
Shares old new pairs =
    (world : World ℕ) (group : ℕ → ℕ) (named : List (Mount ℕ)) → Has world old → AllGroupsLive world
    → All (Contains world.mounts) named
    → map (λ mount. (mount.number, group mount.number)) named ≡ pairs → ((number : ℕ) → LacksGroup world (group number))
    → Has (retyped nat_eq world group ToShared named) new

-- the type of a mount that becomes shared, by the groups that there are, and its group with the master that it gets
abbrev pub shared_type : Grouping → ℕ × ℕ → ℕ × Propagation ℕ
shared_type groups pair = (pair.0, type_after pair.1 ToShared (propagation_in groups pair.0))

abbrev pub shared_group : Grouping → ℕ × ℕ → ℕ × Option ℕ
shared_group groups pair = (pair.1, master_after (propagation_in groups pair.0))

abbrev pub pair_of : MountId × GroupId → ℕ × ℕ
pair_of pair = (counted pair.0.count, group_number pair.1)
