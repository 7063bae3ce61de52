-- The lists by which the groups find mounts and groups.
use Rattle.std.specs.Prelude.{Bool, IsSome, None, Option, Some, false, true, ℕ, ◌≡◌}
use Rattle.vt_location.specs.Numbers.{same_id}
use Rattle.vt_location.specs.declared.mounts.Propagation.{Propagation}
use Rattle.vt_location.specs.declared.mounts.Propagation.TheVariants.{Private, Shared, Slave, Unbindable}
use Rattle.vt_location.specs.declared.numbers.GroupId.{GroupId}
use Rattle.vt_location.specs.declared.numbers.MountId.{MountId}
use Rattle.vt_group.specs.declared.index.Index.{Index}
use Rattle.vt_group.specs.Handing.{group_handed, kind_handed}
use Rattle.vt_group.specs.Names.{is_under}
use Rattle.vt_group.specs.Sets.{same_group}
use Rattle.vt_group.specs.ByNumber.{IsAscending, Numbered, value_at}

abbrev pub group_of_kind : Propagation → Option GroupId
group_of_kind (Shared group) = Some group
group_of_kind (Slave master) = None
group_of_kind Private = None
group_of_kind Unbindable = None

abbrev pub source_of_kind : Propagation → Option GroupId
source_of_kind (Shared group) = Some group
source_of_kind (Slave master) = Some master
source_of_kind Private = None
source_of_kind Unbindable = None

-- mounts of this type receive from this group
abbrev pub has_source : GroupId → Propagation → Bool
has_source group (Shared own) = same_group group own
has_source group (Slave master) = same_group group master
has_source group Private = false
has_source group Unbindable = false

-- a mount is among those of a group
abbrev pub is_relative : Index → MountId → GroupId → Bool
is_relative index mount group = is_under same_id index.names index.mounts mount group

-- a group is among those that have this master
abbrev pub is_lower : Index → GroupId → GroupId → Bool
is_lower index lower upper = is_under same_group index.names index.lowers lower upper

-- a mount of this type is where it has to be
abbrev pub is_listed : Index → MountId → Propagation → Bool
is_listed index mount (Shared group) = is_relative index mount group
is_listed index mount (Slave master) = is_relative index mount master
is_listed index mount Private = true
is_listed index mount Unbindable = true

-- Once a group without members has ended, what has the group's heir in its place is listed so, if it was listed before.
pub record Hands (old new : Index) (lost : GroupId) (heir : Option GroupId) (types : Numbered Propagation)
    (above : Numbered GroupId) : Type 0 where
  pub mounts : (mount : MountId) (was kind : Propagation)
      → ((upper : GroupId) → heir ≡ Some upper → is_lower old lost upper ≡ true)
      → (was ≡ Shared lost → ⊥)
      → IsSome (value_at types mount.count) → kind_handed lost heir was ≡ Some kind
      → is_listed old mount was ≡ true → is_listed new mount kind ≡ true
  pub groups : (lower was upper : GroupId)
      → ((upper : GroupId) → heir ≡ Some upper → is_lower old lost upper ≡ true)
      → same_group lost lower ≡ false → IsSome (value_at above lower.count)
      → group_handed lost heir was ≡ Some upper
      → is_lower old lower was ≡ true → is_lower new lower upper ≡ true

abbrev pub mount_at : ℕ → MountId
mount_at count = record { count = count }

abbrev pub group_at : ℕ → GroupId
group_at count = record { count = count }

-- each mount that has a type is listed, and each group that has a master
pub record Lists (index : Index) (mounts : Numbered Propagation) (above : Numbered GroupId) : Type 0 where
  pub listed : (mount : ℕ) (kind : Propagation) → value_at mounts mount ≡ Some kind
      → is_listed index (mount_at mount) kind ≡ true
  pub lower : (lower : ℕ) (upper : GroupId) → value_at above lower ≡ Some upper
      → is_lower index (group_at lower) upper ≡ true
  pub ordered : IsAscending mounts
  pub ordered_above : IsAscending above
