-- A change of flags is of one mount, a change of type of the mounts that it names: mount(2) with MS_REMOUNT and
-- MS_BIND, and with MS_SHARED, MS_SLAVE, MS_PRIVATE or MS_UNBINDABLE; mount_namespaces(7), "propagation type
-- transitions".
use Rattle.std.specs.Prelude.{Bool, None, false, true, ℕ, nat_eq, ◌≡◌}
use Rattle.vt_spec.specs.Language.Calls.{MountFlags, TypeWord}
use Rattle.vt_spec.specs.Language.Calls.TypeWord.{ToSlave}
use Rattle.vt_spec.specs.Lists.{Fresh, is_among}
use Rattle.vt_spec.specs.Machine.Mounts.{Location, Mount, numbers_by}
use Rattle.vt_spec.specs.Machine.Mounts.Propagation.{Private, Shared}
use Rattle.vt_spec.specs.Machine.World.{World, mount_at, mount_numbered, with_flags}
use Rattle.vt_spec.specs.Machine.Receives.{has_members}
use Rattle.vt_spec.specs.Machine.Types.{named_mounts, type_after, with_type}
use Rattle.vt_laws_mounts.specs.Mounts.Attaching.{is_mount, numbers_of}
use Rattle.vt_laws_mounts.specs.Mounts.Unmounting.{KeepsAllButMounts, has_its_master}

-- The named mount gets the flags, and keeps all else.
abbrev pub FlagsAreSet : Type 0
FlagsAreSet =
    (world : World ℕ) (here : Location ℕ) (flags : MountFlags) → is_mount world here.mount ≡ true
    → mount_numbered nat_eq (with_flags nat_eq world here.mount flags) here.mount
    ≡ record (mount_at nat_eq world here) { flags = flags }

-- Each other mount has the record that it had.
abbrev pub FlagsAreOfOne : Type 0
FlagsAreOfOne =
    (world : World ℕ) (here : Location ℕ) (flags : MountFlags) (number : ℕ) → nat_eq here.mount number ≡ false
    → mount_numbered nat_eq (with_flags nat_eq world here.mount flags) number ≡ mount_numbered nat_eq world number

-- All of a mount but its type
pub record KeepsAllButType (before later : Mount ℕ) : Type 0 where
  pub number : later.number ≡ before.number
  pub namespace : later.namespace ≡ before.namespace
  pub mount_point : later.mount_point ≡ before.mount_point
  pub filesystem : later.filesystem ≡ before.filesystem
  pub root : later.root ≡ before.root
  pub flags : later.flags ≡ before.flags

-- A change of type leaves every mount all but its type,
abbrev pub TypeIsAllThatChanges : Type 0
TypeIsAllThatChanges =
    (world : World ℕ) (fresh : Fresh ℕ) (one : ℕ) (word : TypeWord) (recursive : Bool) (number : ℕ)
    → KeepsAllButType (mount_numbered nat_eq world number)
    (mount_numbered nat_eq (with_type nat_eq fresh world one word recursive) number)

-- and a mount that is not named its type too, unless it is a slave of a group that lost its last member.
abbrev pub TypeIsOfTheNamed : Type 0
TypeIsOfTheNamed =
    (world : World ℕ) (fresh : Fresh ℕ) (one : ℕ) (word : TypeWord) (recursive : Bool) (number : ℕ)
    → is_among nat_eq number (numbers_of (named_mounts nat_eq world one recursive)) ≡ false
    → has_its_master (with_type nat_eq fresh world one word recursive) (mount_numbered nat_eq world number).propagation
    ≡ true
    → (mount_numbered nat_eq (with_type nat_eq fresh world one word recursive) number).propagation
    ≡ (mount_numbered nat_eq world number).propagation

-- A named mount takes the type of the table, with a new group of its own where it needs one, unless it was made a slave
-- of a group that so lost its last member.
abbrev pub TypeIsTaken : Type 0
TypeIsTaken =
    (world : World ℕ) (fresh : Fresh ℕ) (one : ℕ) (word : TypeWord) (recursive : Bool) (number : ℕ)
    → is_mount world number ≡ true
    → is_among nat_eq number (numbers_of (named_mounts nat_eq world one recursive)) ≡ true
    → has_its_master (with_type nat_eq fresh world one word recursive)
    (type_after (numbers_by nat_eq fresh (named_mounts nat_eq world one recursive) number) word
    (mount_numbered nat_eq world number).propagation) ≡ true
    → (mount_numbered nat_eq (with_type nat_eq fresh world one word recursive) number).propagation
    ≡ type_after (numbers_by nat_eq fresh (named_mounts nat_eq world one recursive) number) word
    (mount_numbered nat_eq world number).propagation

-- A shared mount that is made a slave, and was alone in a group without a master, is private.
abbrev pub AloneIsPrivate : Type 0
AloneIsPrivate =
    (world : World ℕ) (fresh : Fresh ℕ) (one group : ℕ) → is_mount world one ≡ true
    → (mount_numbered nat_eq world one).propagation ≡ Shared group → world.master group ≡ None
    → has_members nat_eq (with_type nat_eq fresh world one ToSlave false).mounts group ≡ false
    → (mount_numbered nat_eq (with_type nat_eq fresh world one ToSlave false) one).propagation ≡ Private

-- Files, namespaces and tasks are as they were.
abbrev pub TypesAreOfMounts : Type 0
TypesAreOfMounts =
    (world : World ℕ) (fresh : Fresh ℕ) (one : ℕ) (word : TypeWord) (recursive : Bool)
    → KeepsAllButMounts world (with_type nat_eq fresh world one word recursive)
