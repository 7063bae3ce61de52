-- What takes mounts away keeps the invariants of mounts, and what namespaces have left of them: umount(2), MNT_DETACH,
-- mount points that are removed, and namespaces that end: mount_namespaces(7).
use Rattle.std.specs.Prelude.{All, Bool, Contains, List, None, Option, false, filter, is_some, length, nat_eq, nat_le, true, ℕ, ◌≡◌, ◌⊎◌}
use Rattle.std.specs.List.{list_all}
use Rattle.vt_spec.specs.Machine.Detach.{has_child, lazily_unmounted, trees_taken_away, unmounted, without_mounts_on, without_replaced}
use Rattle.vt_spec.specs.Machine.Mounts.{Location, Mount}
use Rattle.vt_spec.specs.Machine.Namespaces.{has_tasks, namespaces_ended}
use Rattle.vt_spec.specs.Machine.World.{Namespace, World, mount_numbered, mounts_of}
use Rattle.vt_spec.specs.Machine.Invariants.{MountInvariants, is_root_mount}
use Rattle.vt_laws_mounts.specs.Mounts.Invariants.{OneNumberEach}
use Rattle.vt_spec.specs.Lists.{holds_of}

-- The invariants of mounts

-- An unmount of a mount on which no other stands,
abbrev pub UnmountKeepsMounts : Type 0
UnmountKeepsMounts =
    (world : World ℕ) (one : ℕ) → MountInvariants nat_eq world → has_child nat_eq world one ≡ false
    → MountInvariants nat_eq (unmounted nat_eq world one)

-- the end of whole trees of mounts,
abbrev pub TreesKeepMounts : Type 0
TreesKeepMounts =
    (world : World ℕ) (mounts : List (Mount ℕ)) → MountInvariants nat_eq world
    → MountInvariants nat_eq (trees_taken_away nat_eq world mounts)

-- as of those on a directory that is removed,
abbrev pub PointsKeepMounts : Type 0
PointsKeepMounts =
    (world : World ℕ) (location : Location ℕ) → MountInvariants nat_eq world
    → MountInvariants nat_eq (without_mounts_on nat_eq world location)

-- or replaced,
abbrev pub ReplacedKeepsMounts : Type 0
ReplacedKeepsMounts =
    (world : World ℕ) (object : Option (Location ℕ)) → MountInvariants nat_eq world
    → MountInvariants nat_eq (without_replaced nat_eq world object)

-- the end of namespaces,
abbrev pub EndedNamespacesKeepMounts : Type 0
EndedNamespacesKeepMounts =
    (world : World ℕ) → MountInvariants nat_eq world
    → MountInvariants nat_eq (namespaces_ended nat_eq world)

-- and a lazy unmount, of whatever stands on it, keep the invariants of mounts.
abbrev pub LazyUnmountKeepsMounts : Type 0
LazyUnmountKeepsMounts =
    (world : World ℕ) (one : ℕ) → MountInvariants nat_eq world
    → MountInvariants nat_eq (lazily_unmounted nat_eq world one)

-- What namespaces have left

-- the mount is in the namespace
abbrev pub is_in : ℕ → Mount ℕ → Bool
is_in namespace mount = holds_of (nat_eq namespace) mount.namespace

-- how many of these mounts are in a namespace
abbrev pub count_in : List (Mount ℕ) → ℕ → ℕ
count_in mounts namespace = length (filter (is_in namespace) mounts)

-- how many mounts a namespace has
abbrev pub mount_count : World ℕ → ℕ → ℕ
mount_count world namespace = length (mounts_of nat_eq world namespace)

-- and how many without a mount point
abbrev pub root_mounts_in : World ℕ → ℕ → ℕ
root_mounts_in world namespace =
    length (filter (is_root_mount nat_eq) (mounts_of nat_eq world namespace))

-- How two worlds are related

-- each namespace has as many root mounts as before
abbrev pub KeepsRootMounts : World ℕ → World ℕ → Type 0
KeepsRootMounts before after =
    (namespace : ℕ) → root_mounts_in after namespace ≡ root_mounts_in before namespace

-- each namespace has no more mounts than before
abbrev pub HasNoMoreMounts : World ℕ → World ℕ → Type 0
HasNoMoreMounts before after =
    (namespace : ℕ) → nat_le (mount_count after namespace) (mount_count before namespace) ≡ true

-- a mount is in no namespace, or in the one in which a mount with its number was
abbrev pub IsOutOrStays : World ℕ → Mount ℕ → Type 0
IsOutOrStays before mount =
    (mount.namespace ≡ None)
    ⊎ ((old : Mount ℕ) × Contains before.mounts old × (mount.number ≡ old.number)
    × (mount.namespace ≡ old.namespace))

-- so is each
abbrev pub TakesNoMountsIn : World ℕ → World ℕ → Type 0
TakesNoMountsIn before after = All (IsOutOrStays before) after.mounts

-- The changes

abbrev pub ByUnmount : (World ℕ → World ℕ → Type 0) → Type 0
ByUnmount Relation =
    (world : World ℕ) (one : ℕ) → Relation world (unmounted nat_eq world one)

abbrev pub ByLazyUnmount : (World ℕ → World ℕ → Type 0) → Type 0
ByLazyUnmount Relation =
    (world : World ℕ) (one : ℕ) → Relation world (lazily_unmounted nat_eq world one)

abbrev pub ByTrees : (World ℕ → World ℕ → Type 0) → Type 0
ByTrees Relation =
    (world : World ℕ) (mounts : List (Mount ℕ))
    → Relation world (trees_taken_away nat_eq world mounts)

abbrev pub ByPoints : (World ℕ → World ℕ → Type 0) → Type 0
ByPoints Relation =
    (world : World ℕ) (location : Location ℕ)
    → Relation world (without_mounts_on nat_eq world location)

abbrev pub ByReplaced : (World ℕ → World ℕ → Type 0) → Type 0
ByReplaced Relation =
    (world : World ℕ) (object : Option (Location ℕ))
    → Relation world (without_replaced nat_eq world object)

abbrev pub ByEndedNamespaces : (World ℕ → World ℕ → Type 0) → Type 0
ByEndedNamespaces Relation =
    (world : World ℕ) → Relation world (namespaces_ended nat_eq world)

-- Where each mount has a number of its own, root mounts stay: those of all namespaces, if what is unmounted has a
-- mount point,
abbrev pub UnmountKeepsRootMounts : Type 0
UnmountKeepsRootMounts =
    (world : World ℕ) (one : ℕ) → OneNumberEach world
    → is_some (mount_numbered nat_eq world one).mount_point ≡ true
    → KeepsRootMounts world (unmounted nat_eq world one)

abbrev pub LazyUnmountKeepsRootMounts : Type 0
LazyUnmountKeepsRootMounts =
    (world : World ℕ) (one : ℕ) → OneNumberEach world
    → is_some (mount_numbered nat_eq world one).mount_point ≡ true
    → KeepsRootMounts world (lazily_unmounted nat_eq world one)

-- or has each of the mounts of which trees are taken away,
abbrev pub TreesKeepRootMounts : Type 0
TreesKeepRootMounts =
    (world : World ℕ) (mounts : List (Mount ℕ)) → OneNumberEach world
    → list_all (λ mount. is_some (mount_numbered nat_eq world mount.number).mount_point) mounts ≡ true
    → KeepsRootMounts world (trees_taken_away nat_eq world mounts)

-- as those on a directory have,
abbrev pub PointsKeepRootMounts : Type 0
PointsKeepRootMounts =
    (world : World ℕ) (location : Location ℕ) → OneNumberEach world
    → KeepsRootMounts world (without_mounts_on nat_eq world location)

abbrev pub ReplacedKeepsRootMounts : Type 0
ReplacedKeepsRootMounts =
    (world : World ℕ) (object : Option (Location ℕ)) → OneNumberEach world
    → KeepsRootMounts world (without_replaced nat_eq world object)

-- and those of a namespace that has tasks, where others end.
abbrev pub EndedNamespacesKeepRootMounts : Type 0
EndedNamespacesKeepRootMounts =
    (world : World ℕ) (listed : Namespace ℕ) → OneNumberEach world
    → Contains world.namespaces listed
    → has_tasks nat_eq world listed ≡ true
    → root_mounts_in (namespaces_ended nat_eq world) listed.number
    ≡ root_mounts_in world listed.number
