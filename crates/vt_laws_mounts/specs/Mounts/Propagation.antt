-- Laws of propagation: the kernel's document sharedsubtree, and mount_namespaces(7).
use Rattle.std.specs.Prelude.{Bool, Contains, List, None, Option, Some, [], false, find, if◌then◌else◌, true, ℕ, nat_eq, ◌&&◌, ◌∷◌, ◌≡◌, ◌⊎◌}
use Rattle.vt_spec.specs.Machine.Attach.{attach, bind_tree, bound, copies_from, moved_tree, parts_of}
use Rattle.vt_spec.specs.Machine.Detach.{unmounted}
use Rattle.vt_spec.specs.Lists.{Fresh, evens}
use Rattle.vt_spec.specs.Machine.Listing.{mount_lines}
use Rattle.vt_spec.specs.Machine.Mounts.{Location, Mount, Propagation, child_at, detached, is_shared, stands_at}
use Rattle.vt_spec.specs.Language.Calls.{MountFlags}
use Rattle.vt_spec.specs.Machine.Mounts.Propagation.{Private, Shared, Slave}
use Rattle.vt_spec.specs.Machine.Namespaces.{unshared}
use Rattle.vt_spec.specs.Machine.NewMounts.{new_mount, with_new_filesystem}
use Rattle.vt_spec.specs.Machine.Receives.{groups_up, has_members, is_member_of, receives}
use Rattle.vt_spec.specs.Machine.Run.{Serves}
use Rattle.vt_spec.specs.Machine.World.{Filesystem, Task, World, mount_at, mount_numbered, mounts_of}
use Rattle.vt_spec.specs.Machine.Invariants.{MountInvariants}
use Rattle.vt_laws_mounts.specs.Mounts.Attaching.{OneNumberAMount, is_mount, stands_at_a_receiver}
use Rattle.vt_laws_mounts.specs.Mounts.Invariants.{OneNumberEach}
use Rattle.vt_laws_mounts.specs.Mounts.Receivers.{GroupsLive}
use Rattle.vt_laws_mounts.specs.Mounts.Unmounting.{mount_left}

-- Attaching

-- What is attached: a tree of mounts at a destination. The mounts move there, or copies of them are put there; at the
-- receivers copies are. New numbers come out of a supply.
pub record Attachment : Type 0 where
  pub world : World ℕ
  pub fresh : Fresh ℕ
  pub mount_point : Location ℕ
  pub moves : Bool
  pub mounts : List (Mount ℕ)

-- a bind, a new mount and a move: mount(2)
abbrev pub bind_of : Fresh ℕ → World ℕ → Location ℕ → Location ℕ → Bool → Attachment
bind_of fresh world source destination recursive = record {
  world = world;
  fresh = fresh;
  mount_point = destination;
  moves = false;
  mounts = bind_tree nat_eq world source recursive;
}

abbrev pub new_mount_of : Fresh ℕ → World ℕ → Location ℕ → Filesystem ℕ → MountFlags → Attachment
new_mount_of fresh world destination filesystem flags = record {
  world = with_new_filesystem world filesystem;
  fresh = fresh;
  mount_point = destination;
  moves = false;
  mounts = new_mount filesystem.number filesystem.files.tree.root flags ∷ [];
}

abbrev pub move_of : Fresh ℕ → World ℕ → Location ℕ → Location ℕ → Attachment
move_of fresh world source destination = record {
  world = world;
  fresh = fresh;
  mount_point = destination;
  moves = true;
  mounts = moved_tree nat_eq world source.mount;
}

-- the world after it
abbrev pub world_after : Attachment → World ℕ
world_after it = attach nat_eq it.world it.fresh it.mount_point it.moves it.mounts

abbrev pub destination_of : Attachment → Mount ℕ
destination_of it = mount_at nat_eq it.world it.mount_point

-- the destination and the receivers that take part
abbrev pub IsPart : Attachment → Mount ℕ → Type 0
IsPart it part = Contains (parts_of nat_eq it.world it.mount_point) part

abbrev pub IsOfTree : Attachment → Mount ℕ → Type 0
IsOfTree it origin = Contains it.mounts origin

-- what is at this part are the mounts that move themselves
abbrev pub moves_to : Attachment → Mount ℕ → Bool
moves_to it part = it.moves && nat_eq part.number it.mount_point.mount

-- the number of the copy of a mount at a part
abbrev pub number_at : Attachment → Mount ℕ → Mount ℕ → ℕ
number_at it part origin =
    if moves_to it part then origin.number
    else (copies_from nat_eq it.fresh
    (parts_of nat_eq it.world it.mount_point) it.mounts).copy part.number origin.number

-- the copy of a mount at a part, or at the destination of a move the mount itself
abbrev pub copy_of : Attachment → Mount ℕ → Mount ℕ → Mount ℕ
copy_of it part origin = mount_numbered nat_eq (world_after it) (number_at it part origin)

-- What the laws ask for: the numbers that are handed in are not in use, mounts have numbers of their own, groups
-- live, and the types of the tree's mounts are private or those of mounts that there are.
pub record CanAttach (it : Attachment) : Type 0 where
  pub serves : Serves nat_eq it.world it.fresh
  pub one_number : OneNumberEach it.world
  pub groups : GroupsLive it.world
  pub each_once : OneNumberAMount it.mounts
  pub moving : it.moves ≡ true → (origin : Mount ℕ) → IsOfTree it origin → Contains it.world.mounts origin
  pub types : (origin : Mount ℕ) → IsOfTree it origin
      → (origin.propagation ≡ Private)
      ⊎ ((old : Mount ℕ) × Contains it.world.mounts old × (origin.propagation ≡ old.propagation))

-- The invariants of mounts see to that for a bind,
abbrev pub BindsCan : Type 0
BindsCan =
    (world : World ℕ) (fresh : Fresh ℕ) (source destination : Location ℕ) (recursive : Bool) → Serves nat_eq world fresh
    → MountInvariants nat_eq world → CanAttach (bind_of fresh world source destination recursive)

-- for a new mount,
abbrev pub NewMountsCan : Type 0
NewMountsCan =
    (world : World ℕ) (fresh : Fresh ℕ) (destination : Location ℕ) (filesystem : Filesystem ℕ) (flags : MountFlags)
    → Serves nat_eq (with_new_filesystem world filesystem) fresh → MountInvariants nat_eq world
    → CanAttach (new_mount_of fresh world destination filesystem flags)

-- and for a move of a mount that there is.
abbrev pub MovesCan : Type 0
MovesCan =
    (world : World ℕ) (fresh : Fresh ℕ) (source destination : Location ℕ) → Serves nat_eq world fresh
    → MountInvariants nat_eq world → is_mount world source.mount ≡ true
    → CanAttach (move_of fresh world source destination)

-- Copies

-- a copy is there, in the namespace of its part, and shows what it is copied from shows
pub record ShowsTheSame (it : Attachment) (part origin : Mount ℕ) : Type 0 where
  pub there : Contains (world_after it).mounts (copy_of it part origin)
  pub number : (copy_of it part origin).number ≡ number_at it part origin
  pub namespace : (copy_of it part origin).namespace ≡ part.namespace
  pub filesystem : (copy_of it part origin).filesystem ≡ origin.filesystem
  pub root : (copy_of it part origin).root ≡ origin.root
  pub flags : (copy_of it part origin).flags ≡ origin.flags

-- Each mount of the tree has a copy at each part: sharedsubtree, "Bind semantics" and "Move semantics".
abbrev pub EachIsCopied : Type 0
EachIsCopied =
    (it : Attachment) (part origin : Mount ℕ) → CanAttach it → IsPart it part → IsOfTree it origin
    → ShowsTheSame it part origin

-- The number of a copy is that of no mount before.
abbrev pub CopiesAreNew : Type 0
CopiesAreNew =
    (it : Attachment) (part origin : Mount ℕ) → CanAttach it → IsPart it part → IsOfTree it origin
    → moves_to it part ≡ false → is_mount it.world (number_at it part origin) ≡ false

-- Places

-- The first of the tree stands on each part, at the node of the destination.
abbrev pub FirstStandsOnItsPart : Type 0
FirstStandsOnItsPart =
    (it : Attachment) (part first : Mount ℕ) (rest : List (Mount ℕ)) → CanAttach it → IsPart it part
    → it.mounts ≡ first ∷ rest
    → (copy_of it part first).mount_point ≡ Some (record { mount = part.number; node = it.mount_point.node })

-- Each other stands on the copy of the one on which it stood, at the same node; where mounts move, unless its mount
-- point was the destination's directory on a receiver.
abbrev pub OthersStandOnCopies : Type 0
OthersStandOnCopies =
    (it : Attachment) (part first origin below : Mount ℕ) (rest : List (Mount ℕ)) (at : Location ℕ) → CanAttach it
    → IsPart it part → it.mounts ≡ first ∷ rest → IsOfTree it origin → nat_eq origin.number first.number ≡ false
    → IsOfTree it below → origin.mount_point ≡ Some at → at.mount ≡ below.number
    → (moves_to it part && stands_at_a_receiver it.world it.mount_point origin) ≡ false
    → (copy_of it part origin).mount_point ≡ Some (record { mount = (copy_of it part below).number; node = at.node })

-- Types at the destination: sharedsubtree, the tables of "Bind semantics" and "Move semantics"

-- the type that a mount of the tree has at the destination
abbrev pub type_there : Attachment → Mount ℕ → Propagation ℕ
type_there it origin = (copy_of it (destination_of it) origin).propagation

abbrev pub IsSharedDestination : Attachment → Type 0
IsSharedDestination it = is_shared (destination_of it).propagation ≡ true

-- the type is that of a member of a new group, which has this master
abbrev pub IsOfNewGroup : Attachment → Propagation ℕ → Option ℕ → Type 0
IsOfNewGroup it kind master =
    (group : ℕ) × (kind ≡ Shared group) × (has_members nat_eq it.world.mounts group ≡ false)
    × ((world_after it).master group ≡ master)

-- At a destination that is not shared each keeps its type: private, shared, slave or unbindable.
abbrev pub TypeOnNotShared : Type 0
TypeOnNotShared =
    (it : Attachment) (origin : Mount ℕ) → CanAttach it → IsOfTree it origin
    → is_shared (destination_of it).propagation ≡ false → type_there it origin ≡ origin.propagation

-- At a shared one a shared mount stays in its group,
abbrev pub SharedOnShared : Type 0
SharedOnShared =
    (it : Attachment) (origin : Mount ℕ) (group : ℕ) → CanAttach it → IsOfTree it origin → IsSharedDestination it
    → origin.propagation ≡ Shared group → type_there it origin ≡ Shared group

-- a private one is shared, in a new group without a master,
abbrev pub PrivateOnShared : Type 0
PrivateOnShared =
    (it : Attachment) (origin : Mount ℕ) → CanAttach it → IsOfTree it origin → IsSharedDestination it
    → origin.propagation ≡ Private → IsOfNewGroup it (type_there it origin) None

-- and a slave is slave and shared: in a new group whose master is its own.
abbrev pub SlaveOnShared : Type 0
SlaveOnShared =
    (it : Attachment) (origin : Mount ℕ) (master : ℕ) → CanAttach it → IsOfTree it origin → IsSharedDestination it
    → origin.propagation ≡ Slave master → IsOfNewGroup it (type_there it origin) (Some master)

-- Types at receivers: sharedsubtree, "Propagation"

-- the nearest group, from this one up the masters, of which a part is a member
abbrev pub nearest_part_group : Attachment → ℕ → Option ℕ
nearest_part_group it group =
    find (has_members nat_eq (parts_of nat_eq it.world it.mount_point)) (groups_up it.world group)

-- copies at two parts are peers
abbrev pub ArePeers : Mount ℕ → Mount ℕ → Type 0
ArePeers one other = (group : ℕ) × (one.propagation ≡ Shared group) × (other.propagation ≡ Shared group)

-- one is a slave of the other's group
abbrev pub IsSlaveOf : Mount ℕ → Mount ℕ → Type 0
IsSlaveOf one other = (group : ℕ) × (one.propagation ≡ Slave group) × (other.propagation ≡ Shared group)

-- The copies of a mount at peers are peers: those at the destination's peers are peers of what is there.
abbrev pub CopiesAtPeersArePeers : Type 0
CopiesAtPeersArePeers =
    (it : Attachment) (one other origin : Mount ℕ) (group : ℕ) → CanAttach it → IsPart it one → IsPart it other
    → IsOfTree it origin → one.propagation ≡ Shared group → other.propagation ≡ Shared group
    → ArePeers (copy_of it one origin) (copy_of it other origin)

-- The copy at a slave is a slave of the copy at a member of its master, or of the nearest group up from that of which a
-- part is a member.
abbrev pub CopiesAtSlavesAreSlaves : Type 0
CopiesAtSlavesAreSlaves =
    (it : Attachment) (one other origin : Mount ℕ) (master group : ℕ) → CanAttach it → IsPart it one → IsPart it other
    → IsOfTree it origin → nat_eq one.number it.mount_point.mount ≡ false → one.propagation ≡ Slave master
    → nearest_part_group it master ≡ Some group → other.propagation ≡ Shared group
    → IsSlaveOf (copy_of it one origin) (copy_of it other origin)

-- The copy at a member of another group than the destination's is in a new group, whose master is the group of the
-- copy at a member of that group's master, or of the nearest group up.
abbrev pub CopiesAtLowerGroupsFollow : Type 0
CopiesAtLowerGroupsFollow =
    (it : Attachment) (one other origin : Mount ℕ) (own master group : ℕ) → CanAttach it → IsPart it one
    → IsPart it other → IsOfTree it origin → one.propagation ≡ Shared own
    → is_member_of nat_eq own (destination_of it) ≡ false → it.world.master own ≡ Some master
    → nearest_part_group it master ≡ Some group → other.propagation ≡ Shared group
    → (above : ℕ) × ((copy_of it other origin).propagation ≡ Shared above)
    × IsOfNewGroup it (copy_of it one origin).propagation (Some above)

-- a part is a member of the nearest group up from this one
abbrev pub HasGroupAbove : Attachment → ℕ → Type 0
HasGroupAbove it master =
    (group : ℕ) × (other : Mount ℕ) × (nearest_part_group it master ≡ Some group) × IsPart it other
    × (other.propagation ≡ Shared group)

-- A slave that takes part has such a group above it,
abbrev pub SlavesHaveAGroupAbove : Type 0
SlavesHaveAGroupAbove =
    (it : Attachment) (one : Mount ℕ) (master : ℕ) → IsPart it one
    → nat_eq one.number it.mount_point.mount ≡ false → one.propagation ≡ Slave master → HasGroupAbove it master

-- and so has a member of another group than the destination's, whose group has a master.
abbrev pub LowerGroupsHaveAGroupAbove : Type 0
LowerGroupsHaveAGroupAbove =
    (it : Attachment) (one : Mount ℕ) (own : ℕ) → IsPart it one → one.propagation ≡ Shared own
    → is_member_of nat_eq own (destination_of it) ≡ false
    → (master : ℕ) × (it.world.master own ≡ Some master) × HasGroupAbove it master

-- Hearing: sharedsubtree, "Propagation"

-- The copies of a mount hear one another just as the parts do: the copy at one part receives from the group of the
-- copy at another where the one part received from the other's group. So the copies are a propagation tree like that
-- of the parts.
abbrev pub CopiesHearOneAnother : Type 0
CopiesHearOneAnother =
    (it : Attachment) (one other origin : Mount ℕ) (group : ℕ) → CanAttach it → IsPart it one → IsPart it other
    → IsOfTree it origin → other.propagation ≡ Shared group
    → (image : ℕ) × ((copy_of it other origin).propagation ≡ Shared image)
    × (receives nat_eq (world_after it) image (copy_of it one origin) ≡ receives nat_eq it.world group one)

-- Of a group that had members before, a copy hears just where the mount that it is made from did: not at all where
-- that was private, as its peers where it was shared, and from its master where it was a slave.
abbrev pub CopiesHearAsTheirOrigins : Type 0
CopiesHearAsTheirOrigins =
    (it : Attachment) (part origin : Mount ℕ) (group : ℕ) → CanAttach it → IsPart it part → IsOfTree it origin
    → has_members nat_eq it.world.mounts group ≡ true
    → receives nat_eq (world_after it) group (copy_of it part origin) ≡ receives nat_eq it.world group origin

-- Unmounting: sharedsubtree, "Unmount semantics"

-- no mount has the destination's directory as mount point on a mount that receives from the destination's group
abbrev pub NothingAtReceivers : World ℕ → Location ℕ → Type 0
NothingAtReceivers world destination =
    (group : ℕ) (receiver mount : Mount ℕ) → (mount_at nat_eq world destination).propagation ≡ Shared group
    → Contains world.mounts receiver → receives nat_eq world group receiver ≡ true → Contains world.mounts mount
    → stands_at nat_eq (record { mount = receiver.number; node = destination.node }) mount ≡ false

-- the unmount of what was attached at the destination undoes it: each mount that was there has its record back, all
-- copies are detached, and groups that have members have the masters that they had
pub record IsUndone (it : Attachment) (one : Mount ℕ) : Type 0 where
  pub back : (number : ℕ) → is_mount it.world number ≡ true
      → mount_left (world_after it) (number_at it (destination_of it) one) number
      ≡ mount_numbered nat_eq it.world number
  pub gone : (part : Mount ℕ) → IsPart it part
      → mount_left (world_after it) (number_at it (destination_of it) one) (number_at it part one)
      ≡ detached (copy_of it part one)
  pub masters : (group : ℕ) → has_members nat_eq it.world.mounts group ≡ true
      → (unmounted nat_eq (world_after it) (number_at it (destination_of it) one)).master group ≡ it.world.master group

-- An unmount undoes a new mount at a free location, where no mount has the destination's directory as mount point on a
-- receiver,
abbrev pub UnmountUndoesNewMount : Type 0
UnmountUndoesNewMount =
    (world : World ℕ) (fresh : Fresh ℕ) (destination : Location ℕ) (filesystem : Filesystem ℕ) (flags : MountFlags)
    → Serves nat_eq (with_new_filesystem world filesystem) fresh → MountInvariants nat_eq world
    → is_mount world destination.mount ≡ true → child_at nat_eq world.mounts destination ≡ None
    → NothingAtReceivers world destination
    → IsUndone (new_mount_of fresh world destination filesystem flags)
    (new_mount filesystem.number filesystem.files.tree.root flags)

-- and a bind of one mount.
abbrev pub UnmountUndoesBind : Type 0
UnmountUndoesBind =
    (world : World ℕ) (fresh : Fresh ℕ) (source destination : Location ℕ) → Serves nat_eq world fresh
    → MountInvariants nat_eq world → is_mount world destination.mount ≡ true
    → child_at nat_eq world.mounts destination ≡ None
    → NothingAtReceivers world destination
    → IsUndone (bind_of fresh world source destination false) (bound nat_eq world source)

-- Unsharing

-- The list of the new namespace's mounts reads as that of the caller's did: the same order, mount points, filesystems,
-- roots, flags and types. Copies of shared mounts are their peers, copies of slaves have their masters:
-- mount_namespaces(7).
abbrev pub UnshareListsTheSame : Type 0
UnshareListsTheSame =
    (world : World ℕ) (fresh : Fresh ℕ) (task : Task ℕ) → Serves nat_eq world fresh → MountInvariants nat_eq world
    → mounts_of nat_eq world (evens fresh 0) ≡ []
    → mount_lines nat_eq (unshared nat_eq world fresh task) (evens fresh 0) ≡ mount_lines nat_eq world task.namespace

-- The list of every other namespace reads as it did, too.
abbrev pub UnshareListsOthersTheSame : Type 0
UnshareListsOthersTheSame =
    (world : World ℕ) (fresh : Fresh ℕ) (task : Task ℕ) (namespace : ℕ) → Serves nat_eq world fresh
    → MountInvariants nat_eq world → nat_eq namespace (evens fresh 0) ≡ false
    → mount_lines nat_eq (unshared nat_eq world fresh task) namespace ≡ mount_lines nat_eq world namespace
