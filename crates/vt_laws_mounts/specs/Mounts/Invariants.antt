-- Invariants of a world that changes of mounts keep: mount_namespaces(7), sharedsubtree.
use Rattle.std.specs.List.{list_all}
use Rattle.std.specs.Prelude.{Bool, List, false, true, ℕ, nat_eq, ◌≡◌}
use Rattle.vt_spec.specs.Machine.Attach.{attach}
use Rattle.vt_spec.specs.Language.Calls.{MountFlags, TypeWord}
use Rattle.vt_spec.specs.Machine.Detach.{has_child, taken_away, trees_taken_away, unmounted, lazily_unmounted}
use Rattle.vt_spec.specs.Lists.{Fresh}
use Rattle.vt_spec.specs.Machine.Mounts.{Location, Mount}
use Rattle.vt_spec.specs.Machine.Namespaces.{namespaces_ended, pivoted, unshared}
use Rattle.vt_spec.specs.Machine.World.{Task, World, with_flags}
use Rattle.vt_spec.specs.Machine.Receives.{regrouped}
use Rattle.vt_spec.specs.Machine.Run.{Serves}
use Rattle.vt_spec.specs.Machine.Settled.{settled}
use Rattle.vt_spec.specs.Machine.Types.{with_type}
use Rattle.vt_spec.specs.Machine.Invariants.{is_nowhere_or_attached}
use Rattle.vt_laws_mounts.specs.Mounts.Attaching.{OneNumberAMount}
use Rattle.vt_laws_mounts.specs.Mounts.MountPoints.{OneMountAMountPoint}
use Rattle.vt_laws_mounts.specs.Mounts.Receivers.{GroupsLive}
use Rattle.vt_laws_mounts.specs.Mounts.Unmounting.{ChainsEnd}

-- The invariants

-- each mount has a number of its own
abbrev pub OneNumberEach : World ℕ → Type 0
OneNumberEach world = OneNumberAMount world.mounts

-- no two mounts have one mount point
abbrev pub OneMountEachMountPoint : World ℕ → Type 0
OneMountEachMountPoint world = OneMountAMountPoint world.mounts

-- both
pub record AreApart (world : World ℕ) : Type 0 where
  pub by_number : OneNumberEach world
  pub by_place : OneMountEachMountPoint world

-- a mount outside every namespace has no mount point and is private
abbrev pub NowhereOrAttached : World ℕ → Type 0
NowhereOrAttached world = list_all is_nowhere_or_attached world.mounts ≡ true

-- The changes, each of which keeps an invariant

-- an unmount: umount(2)
abbrev pub KeptByUnmount : (World ℕ → Type 0) → Type 0
KeptByUnmount Invariant = (world : World ℕ) (one : ℕ) → Invariant world → Invariant (unmounted nat_eq world one)

-- a lazy unmount: umount(2) with MNT_DETACH
abbrev pub KeptByLazyUnmount : (World ℕ → Type 0) → Type 0
KeptByLazyUnmount Invariant = (world : World ℕ) (one : ℕ) → Invariant world
    → Invariant (lazily_unmounted nat_eq world one)

-- the end of any mounts: of those of an unmount, of those on a removed directory, of those of a namespace that ends
abbrev pub KeptByTakingAway : (World ℕ → Type 0) → Type 0
KeptByTakingAway Invariant = (world : World ℕ) (gone : List ℕ) → Invariant world
    → Invariant (taken_away nat_eq world gone)

-- a namespace's end
abbrev pub KeptByEndedNamespaces : (World ℕ → Type 0) → Type 0
KeptByEndedNamespaces Invariant = (world : World ℕ) → Invariant world → Invariant (namespaces_ended nat_eq world)

-- the inheritance of groups without members
abbrev pub KeptByInheritance : (World ℕ → Type 0) → Type 0
KeptByInheritance Invariant = (world : World ℕ) → Invariant world → Invariant (regrouped nat_eq world)

-- a change of type, of one mount or of a tree
abbrev pub KeptByType : (World ℕ → Type 0) → Type 0
KeptByType Invariant =
    (world : World ℕ) (fresh : Fresh ℕ) (one : ℕ) (word : TypeWord) (recursive : Bool) → Invariant world
    → Invariant (with_type nat_eq fresh world one word recursive)

-- a change of flags
abbrev pub KeptByFlags : (World ℕ → Type 0) → Type 0
KeptByFlags Invariant = (world : World ℕ) (here : Location ℕ) (flags : MountFlags) → Invariant world
    → Invariant (with_flags nat_eq world here.mount flags)

-- a pivot of the root: pivot_root(2)
abbrev pub KeptByPivot : (World ℕ → Type 0) → Type 0
KeptByPivot Invariant =
    (world : World ℕ) (namespace : ℕ) (root new : Mount ℕ) (put : Location ℕ) → Invariant world
    → Invariant (pivoted nat_eq world namespace root new put)

-- a copy of a namespace: unshare(2)
abbrev pub KeptByUnshare : (World ℕ → Type 0) → Type 0
KeptByUnshare Invariant = (world : World ℕ) (fresh : Fresh ℕ) (task : Task ℕ) → Invariant world
    → Invariant (unshared nat_eq world fresh task)

-- the end of what nothing uses
abbrev pub KeptBySettling : (World ℕ → Type 0) → Type 0
KeptBySettling Invariant = (world : World ℕ) → Invariant world → Invariant (settled nat_eq world)

-- Mounts outside every namespace

-- A change of flags leaves them nowhere, where each mount has a number of its own.
abbrev pub FlagsKeepNowhere : Type 0
FlagsKeepNowhere =
    (world : World ℕ) (here : Location ℕ) (flags : MountFlags) → OneNumberEach world → NowhereOrAttached world
    → NowhereOrAttached (with_flags nat_eq world here.mount flags)

-- Numbers

-- What is attached has numbers of its own, where those that are handed in are not in use,
abbrev pub AttachKeepsNumbers : Type 0
AttachKeepsNumbers =
    (world : World ℕ) (fresh : Fresh ℕ) (place : Location ℕ) (moves : Bool) (mounts : List (Mount ℕ))
    → Serves nat_eq world fresh → OneNumberAMount mounts → OneNumberEach world
    → OneNumberEach (attach nat_eq world fresh place moves mounts)

-- and so have the copies of a namespace's mounts.
abbrev pub UnshareKeepsNumbers : Type 0
UnshareKeepsNumbers =
    (world : World ℕ) (fresh : Fresh ℕ) (task : Task ℕ) → Serves nat_eq world fresh → OneNumberEach world
    → OneNumberEach (unshared nat_eq world fresh task)

-- Places

-- An unmount of a mount without children leaves no two mounts with one mount point: what covered a mount that goes
-- takes a mount point that is free.
abbrev pub UnmountLeavesOneMountAMountPoint : Type 0
UnmountLeavesOneMountAMountPoint =
    (world : World ℕ) (one : ℕ) → AreApart world → has_child nat_eq world one ≡ false
    → AreApart (unmounted nat_eq world one)

-- So does the end of whole trees of mounts, as of those on a removed directory: mount_namespaces(7).
abbrev pub TreesLeaveOneMountAMountPoint : Type 0
TreesLeaveOneMountAMountPoint =
    (world : World ℕ) (mounts : List (Mount ℕ)) → ChainsEnd world → AreApart world
    → AreApart (trees_taken_away nat_eq world mounts)

-- And so does the end of namespaces: mount_namespaces(7).
abbrev pub EndedNamespacesLeaveOneMountAMountPoint : Type 0
EndedNamespacesLeaveOneMountAMountPoint = (world : World ℕ) → ChainsEnd world → AreApart world
    → AreApart (namespaces_ended nat_eq world)

-- Where each mount has a number of its own, the chain of parents of each mount comes to an end in one namespace also
-- after a change of type,
abbrev pub TypeKeepsChainsEnding : Type 0
TypeKeepsChainsEnding =
    (world : World ℕ) (fresh : Fresh ℕ) (one : ℕ) (word : TypeWord) (recursive : Bool)
    → OneNumberEach world → ChainsEnd world → ChainsEnd (with_type nat_eq fresh world one word recursive)

-- a change of flags,
abbrev pub FlagsKeepChainsEnding : Type 0
FlagsKeepChainsEnding =
    (world : World ℕ) (here : Location ℕ) (flags : MountFlags) → OneNumberEach world → ChainsEnd world
    → ChainsEnd (with_flags nat_eq world here.mount flags)

-- and the inheritance of groups.
abbrev pub InheritanceKeepsChainsEnding : Type 0
InheritanceKeepsChainsEnding = (world : World ℕ) → OneNumberEach world → ChainsEnd world
    → ChainsEnd (regrouped nat_eq world)

-- Groups

-- Groups live on through a change of type whose new groups are not in use.
abbrev pub TypeKeepsGroups : Type 0
TypeKeepsGroups =
    (world : World ℕ) (fresh : Fresh ℕ) (one : ℕ) (word : TypeWord) (recursive : Bool) → Serves nat_eq world fresh
    → GroupsLive world
    → GroupsLive (with_type nat_eq fresh world one word recursive)

-- and through a change of flags.
abbrev pub FlagsKeepGroups : Type 0
FlagsKeepGroups =
    (world : World ℕ) (here : Location ℕ) (flags : MountFlags) → OneNumberEach world → GroupsLive world
    → GroupsLive (with_flags nat_eq world here.mount flags)

-- What nothing uses is in no group, so groups do not end with it.
abbrev pub SettlingKeepsGroups : Type 0
SettlingKeepsGroups = (world : World ℕ) → NowhereOrAttached world → GroupsLive world → GroupsLive (settled nat_eq world)
