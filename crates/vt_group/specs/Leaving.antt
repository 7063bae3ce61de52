-- A mount that leaves its group, and the types of the others once it has: its group ends with its last member.
use Rattle.std.specs.Prelude.{Bool, None, Option, Some, if◌then◌else◌, nat_eq, ℕ}
use Rattle.std.specs.List.{list_any}
use Rattle.std.specs.Map.{remove_entry}
use Rattle.vt_spec.specs.Lists.{holds_of, then_some}
use Rattle.vt_spec.specs.Machine.Mounts.{Propagation, group_of}
use Rattle.vt_spec.specs.Machine.Mounts.Propagation.{Private, Shared, Slave, Unbindable}
use Rattle.vt_spec.specs.Machine.Receives.{slave_of_heir}
use Rattle.vt_group.specs.Grouping.{Grouping, master_in, propagation_in}
use Rattle.vt_group.specs.Steps.{handed, has_peers, is_member, with_peer}
use Rattle.vt_group.specs.Together.{as_slave}

-- the mount is a member of the group
abbrev pub is_member_of : ℕ → Grouping → ℕ → Bool
is_member_of group groups mount = holds_of (nat_eq group) (group_of (propagation_in groups mount))

-- a group, if no other mount than this one is a member of it
abbrev pub if_lone : Grouping → ℕ → Option ℕ → Option ℕ
if_lone groups mount None = None
if_lone groups mount (Some group) =
    if list_any (is_member group) (remove_entry (nat_eq mount) groups.peers) then None else Some group

-- the group that this mount is the only member of
abbrev pub lone_group : Grouping → ℕ → Option ℕ
lone_group groups mount = if_lone groups mount (group_of (propagation_in groups mount))

-- The type of a mount after a group ended that had this heir. A slave of the group is a slave of the heir then, or
-- private if there is none.
abbrev pub type_after_end : ℕ → Option ℕ → Propagation ℕ → Propagation ℕ
type_after_end lost heir (Shared group) = Shared group
type_after_end lost heir (Slave master) = if nat_eq master lost then slave_of_heir heir else Slave master
type_after_end lost heir Private = Private
type_after_end lost heir Unbindable = Unbindable

-- the master of a group after one ended
abbrev pub master_after_end : ℕ → Option ℕ → Grouping → ℕ → Option ℕ
master_after_end lost heir groups group =
    if nat_eq group lost then None else then_some (master_in groups group) (handed lost heir)

-- the type of a mount after this group ended, if any
abbrev pub type_once_ended : Grouping → Option ℕ → Propagation ℕ → Propagation ℕ
type_once_ended groups None kind = kind
type_once_ended groups (Some lost) kind = type_after_end lost (master_in groups lost) kind

-- a group that has no members, if it is this one
abbrev pub lost_group : Grouping → Option ℕ → Option ℕ
lost_group groups None = None
lost_group groups (Some group) = if has_peers group groups then None else Some group

-- the type of a mount once this one has another type
abbrev pub type_once_retyped : Grouping → ℕ → Propagation ℕ → ℕ → Propagation ℕ
type_once_retyped groups mount kind other =
    let now = with_peer mount kind groups in
    type_once_ended now (lost_group now (group_of (propagation_in groups mount))) (propagation_in now other)

-- the type of a mount once this one is private
abbrev pub type_once_left : Grouping → ℕ → ℕ → Propagation ℕ
type_once_left groups mount other =
    if nat_eq other mount then Private else type_once_ended groups (lone_group groups mount) (propagation_in groups other)

-- the type of a mount once this one is a slave of the group that it was in
abbrev pub type_once_slave : Grouping → ℕ → ℕ → Propagation ℕ
type_once_slave groups mount other =
    type_once_ended groups (lone_group groups mount)
    (if nat_eq other mount then as_slave (propagation_in groups mount) else propagation_in groups other)
