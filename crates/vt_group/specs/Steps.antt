-- What the private functions do.
use Rattle.std.specs.Prelude.{Bool, None, Option, Some, filter_map, if◌then◌else◌, nat_eq, option_map, ℕ}
use Rattle.std.specs.BTreeMap.{insert_entry}
use Rattle.std.specs.List.{list_any}
use Rattle.std.specs.Ordering.{nat_cmp}
use Rattle.vt_spec.specs.Lists.{holds_of}
use Rattle.vt_spec.specs.Machine.Mounts.{Propagation as Type_of_mount, group_of}
use Rattle.vt_spec.specs.Machine.Mounts.Propagation.{Private, Shared, Slave, Unbindable}
use Rattle.vt_location.specs.declared.numbers.GroupId.{GroupId}
use Rattle.vt_location.specs.declared.mounts.Propagation.{Propagation}
use Rattle.vt_location.specs.MountValue.{propagation_of}
use Rattle.vt_location.specs.Numbers.{counted, group_number}
use Rattle.vt_group.specs.Grouping.{Grouping, master_in, propagation_in}

abbrev pub type_or_private : Option Propagation → Type_of_mount ℕ
type_or_private None = Private
type_or_private (Some kind) = propagation_of kind

abbrev pub numbered_peer : ℕ × Propagation → ℕ × Type_of_mount ℕ
numbered_peer entry = (counted entry.0, propagation_of entry.1)

abbrev pub numbered_master : ℕ × GroupId → ℕ × ℕ
numbered_master entry = (counted entry.0, group_number entry.1)

abbrev pub is_member : ℕ → ℕ × Type_of_mount ℕ → Bool
is_member group peer = holds_of (nat_eq group) (group_of peer.1)

abbrev pub has_peers : ℕ → Grouping → Bool
has_peers group groups = list_any (is_member group) groups.peers

-- a master or a slave's type after a group ended and left its heir in its place
abbrev pub handed : ℕ → Option ℕ → ℕ → Option ℕ
handed lost heir master = if nat_eq master lost then heir else Some master

abbrev pub handed_type : ℕ → Option ℕ → Type_of_mount ℕ → Option (Type_of_mount ℕ)
handed_type lost heir (Shared group) = Some (Shared group)
handed_type lost heir (Slave master) = option_map Slave (handed lost heir master)
handed_type lost heir Private = Some Private
handed_type lost heir Unbindable = Some Unbindable

abbrev pub handed_peer : ℕ → Option ℕ → ℕ × Type_of_mount ℕ → Option (ℕ × Type_of_mount ℕ)
handed_peer lost heir peer = option_map (λ kind. (peer.0, kind)) (handed_type lost heir peer.1)

abbrev pub handed_entry : ℕ → Option ℕ → ℕ × ℕ → Option (ℕ × ℕ)
handed_entry lost heir entry =
    option_map (λ master. (entry.0, master)) (if nat_eq entry.0 lost then None else handed lost heir entry.1)

-- the groups without one that has no members: its slaves and lower groups get its master
abbrev pub ended : ℕ → Grouping → Grouping
ended group groups = record {
  peers = filter_map (handed_peer group (master_in groups group)) groups.peers;
  masters = filter_map (handed_entry group (master_in groups group)) groups.masters;
}

abbrev pub ended_if_lost : Option ℕ → Grouping → Grouping
ended_if_lost None groups = groups
ended_if_lost (Some group) groups = if has_peers group groups then groups else ended group groups

-- the groups after a mount got a type, and its group ended if it lost its last member
abbrev pub with_peer : ℕ → Type_of_mount ℕ → Grouping → Grouping
with_peer mount kind groups = record groups { peers = insert_entry nat_cmp groups.peers mount kind }

abbrev pub retyped : ℕ → Type_of_mount ℕ → Grouping → Grouping
retyped mount kind groups = ended_if_lost (group_of (propagation_in groups mount)) (with_peer mount kind groups)
