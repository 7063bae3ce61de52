-- Types of mounts and masters of groups that come one after another.
use Rattle.std.specs.Prelude.{is_some, true, ℕ, ◌≡◌}
use Rattle.vt_spec.specs.Machine.Mounts.{Propagation as Type_of_mount}
use Rattle.vt_location.specs.declared.mounts.Propagation.{Propagation}
use Rattle.vt_location.specs.declared.numbers.GroupId.{GroupId}
use Rattle.vt_location.specs.declared.numbers.MountId.{MountId}
use Rattle.vt_location.specs.MountValue.{propagation_of}
use Rattle.vt_location.specs.Numbers.{counted}
use Rattle.vt_group.specs.declared.groups.NewGroup.{NewGroup}
use Rattle.vt_group.specs.ByNumber.{Numbered, has_room}
use Rattle.vt_group.specs.Indexed.{source_of_kind}
use Rattle.vt_group.specs.Types.{Fits, Kept}

abbrev pub typed_pair : MountId × Propagation → ℕ × Type_of_mount ℕ
typed_pair pair = (counted pair.0.count, propagation_of pair.1)

-- there is room for the type of a mount, if it is shared or a slave
abbrev pub FitsType : Kept → MountId × Propagation → Type 0
FitsType types pair = is_some (source_of_kind pair.1) ≡ true → Fits types pair.0.count pair.1

-- there is room for the master of a group, if it gets one
abbrev pub FitsMaster : Numbered GroupId → NewGroup → Type 0
FitsMaster above new = is_some new.master ≡ true → has_room above new.group.count ≡ true
