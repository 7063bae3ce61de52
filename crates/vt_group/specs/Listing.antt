-- Mounts and groups that come are listed first.
use Rattle.std.specs.Prelude.{List, None, Option, Some, [], is_some, true, ◌∷◌, ◌≡◌}
use Rattle.vt_spec.specs.Machine.Mounts.{source_of}
use Rattle.vt_location.specs.declared.mounts.Mount.{Mount}
use Rattle.vt_location.specs.declared.mounts.Propagation.{Propagation}
use Rattle.vt_location.specs.declared.mounts.Propagation.TheVariants.{Private, Shared, Slave, Unbindable}
use Rattle.vt_location.specs.declared.numbers.GroupId.{GroupId}
use Rattle.vt_location.specs.declared.numbers.MountId.{MountId}
use Rattle.vt_location.specs.MountValue.{propagation_of}
use Rattle.vt_group.specs.declared.groups.NewGroup.{NewGroup}
use Rattle.vt_group.specs.declared.index.Index.{Index}
use Rattle.vt_group.specs.Indexed.{is_listed, is_lower}
use Rattle.vt_group.specs.ByNumber.{Numbered, value_at}

abbrev pub IsJoined : Index → GroupId → Option GroupId → Type 0
IsJoined index group None = Unit {0}
IsJoined index group (Some master) = is_lower index group master ≡ true

-- each group that has a master is listed with it
abbrev pub EachJoined : Index → List NewGroup → Type 0
EachJoined index [] = Unit {0}
EachJoined index (new ∷ rest) = IsJoined index new.group new.master × EachJoined index rest

abbrev pub IsListed : Index → Mount → Type 0
IsListed index mount =
    is_some (source_of (propagation_of mount.propagation)) ≡ true
    → is_listed index mount.number mount.propagation ≡ true

-- what a mount that becomes shared is, and the master of its group
abbrev pub kind_shared : Option Propagation → GroupId → Propagation
kind_shared None group = Shared group
kind_shared (Some (Shared own)) group = Shared own
kind_shared (Some (Slave master)) group = Shared group
kind_shared (Some Private) group = Shared group
kind_shared (Some Unbindable) group = Shared group

abbrev pub master_shared : Option Propagation → Option GroupId
master_shared None = None
master_shared (Some (Shared own)) = None
master_shared (Some (Slave master)) = Some master
master_shared (Some Private) = None
master_shared (Some Unbindable) = None

abbrev pub IsShared : Index → Option Propagation → MountId → GroupId → Type 0
IsShared index was mount group =
    (is_listed index mount (kind_shared was group) ≡ true) × IsJoined index group (master_shared was)

-- each of these mounts is listed as shared
abbrev pub EachShared : Index → Numbered Propagation → List (MountId × GroupId) → Type 0
EachShared index types [] = Unit {0}
EachShared index types (pair ∷ rest) =
    IsShared index (value_at types pair.0.count) pair.0 pair.1 × EachShared index types rest

-- each mount that is shared or a slave is listed
abbrev pub EachListed : Index → List Mount → Type 0
EachListed index [] = Unit {0}
EachListed index (mount ∷ rest) = IsListed index mount × EachListed index rest
