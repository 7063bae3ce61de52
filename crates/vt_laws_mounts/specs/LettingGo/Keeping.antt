-- Changes of mounts that take no use away: mount(2), also with MS_BIND, MS_REMOUNT, MS_SHARED and its kin.
use Rattle.std.specs.Prelude.{Bool, List, Option, false, if◌then◌else◌, is_some, map, nat_eq, true, ℕ, ◌++◌, ◌||◌, ◌≡◌}
use Rattle.std.specs.List.{list_all}
use Rattle.vt_spec.specs.Lists.{Fresh, any_pair, is_among}
use Rattle.vt_spec.specs.Machine.Apply.{apply}
use Rattle.vt_spec.specs.Machine.Mounts.{Location, Mount}
use Rattle.vt_spec.specs.Language.Calls.{MountFlags}
use Rattle.vt_spec.specs.Machine.World.{Filesystem, Task, World, all_locations, with_flags, with_mounts}
use Rattle.vt_spec.specs.Machine.Permits.Permit.{ToSetFlags}
use Rattle.vt_spec.specs.Machine.Settled.{is_mounted, named_in, settled}
use Rattle.vt_laws_mounts.specs.LettingGo.Detaching.{with_changed}
use Rattle.vt_laws_mounts.specs.LettingGo.InUse.{AllInUse, GroupsInUse}
use Rattle.vt_laws_mounts.specs.LettingGo.Leaving.{MountsStand}

-- a change of types or flags: each mount stands where it stood, and shows what it showed
pub record KeepsUses (change : Mount ℕ → Mount ℕ) : Type 0 where
  pub number : (mount : Mount ℕ) → (change mount).number ≡ mount.number
  pub namespace : (mount : Mount ℕ) → (change mount).namespace ≡ mount.namespace
  pub mount_point : (mount : Mount ℕ) → (change mount).mount_point ≡ mount.mount_point
  pub filesystem : (mount : Mount ℕ) → (change mount).filesystem ≡ mount.filesystem
  pub root : (mount : Mount ℕ) → (change mount).root ≡ mount.root

-- Then nothing goes, in any world in which all was in use, where groups without members have no masters afterwards.
abbrev pub TypesKeepAll : Type 0
TypesKeepAll =
    (world : World ℕ) (change : Mount ℕ → Mount ℕ) (master : ℕ → Option ℕ) → AllInUse world → KeepsUses change
    → GroupsInUse (with_changed world change master)
    → settled nat_eq (with_changed world change master) ≡ with_changed world change master

-- The flags of one mount

abbrev pub flags_if : ℕ → MountFlags → Mount ℕ → Mount ℕ
flags_if number flags mount = if nat_eq mount.number number then record mount { flags = flags } else mount

-- Where each mount has a number of its own, a change of flags is one of the record of one mount,
abbrev pub FlagsAreOfOne : Type 0
FlagsAreOfOne =
    (world : World ℕ) (here : Location ℕ) (flags : MountFlags)
    → any_pair (λ (a b : Mount ℕ). nat_eq a.number b.number) world.mounts ≡ false
    → with_flags nat_eq world here.mount flags ≡ with_mounts world (map (flags_if here.mount flags) world.mounts)

-- and nothing goes.
abbrev pub FlagsKeepAll : Type 0
FlagsKeepAll =
    (world : World ℕ) (here : Location ℕ) (flags : MountFlags)
    → any_pair (λ (a b : Mount ℕ). nat_eq a.number b.number) world.mounts ≡ false
    → AllInUse world
    → settled nat_eq (with_flags nat_eq world here.mount flags) ≡ with_flags nat_eq world here.mount flags

-- So it is after a call that sets the flags of a mount.
abbrev pub SetFlagsKeepAll : Type 0
SetFlagsKeepAll =
    (fresh : Fresh ℕ) (world : World ℕ) (task : Task ℕ) (number : ℕ) (flags : MountFlags)
    → any_pair (λ (a b : Mount ℕ). nat_eq a.number b.number) world.mounts ≡ false → AllInUse world
    → settled nat_eq (apply nat_eq fresh world task (ToSetFlags number flags)).world
    ≡ (apply nat_eq fresh world task (ToSetFlags number flags)).world

-- New mounts and filesystems

-- each root, working directory and descriptor is on a mount that is there
abbrev pub LocationsStand : World ℕ → Type 0
LocationsStand world =
    list_all (λ location. is_among nat_eq location.mount (map (λ mount. mount.number) world.mounts))
    (all_locations world) ≡ true

abbrev pub with_new : World ℕ → List (Mount ℕ) → List (Filesystem ℕ) → (ℕ → Option ℕ) → World ℕ
with_new world mounts filesystems master =
    record world { mounts = world.mounts ++ mounts; filesystems = world.filesystems ++ filesystems; master = master }

-- each inode is the root, or has a name
abbrev pub has_only_named : Filesystem ℕ → Bool
has_only_named filesystem =
    list_all (λ number. nat_eq number filesystem.files.tree.root || is_among nat_eq number (named_in filesystem.files))
    filesystem.files.numbers

-- Where mounts in a namespace are added, and filesystems that they show, nothing goes, in any world in which all was in
-- use: a bind or a new mount.
abbrev pub NewMountsKeepAll : Type 0
NewMountsKeepAll =
    (world : World ℕ) (mounts : List (Mount ℕ)) (filesystems : List (Filesystem ℕ)) (master : ℕ → Option ℕ)
    → AllInUse world → MountsStand world → LocationsStand world
    → list_all (λ mount. is_some mount.namespace) mounts ≡ true
    → list_all (λ filesystem. is_mounted nat_eq
    (with_new world mounts filesystems master) filesystem.number) filesystems
    ≡ true
    → list_all has_only_named filesystems ≡ true
    → GroupsInUse (with_new world mounts filesystems master)
    → settled nat_eq (with_new world mounts filesystems master) ≡ with_new world mounts filesystems master
