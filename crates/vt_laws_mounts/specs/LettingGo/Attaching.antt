-- What goes when mounts are attached: mount(2), also with MS_BIND, MS_REC and MS_MOVE. Copies at receivers are counted
-- in.
use Rattle.std.specs.Prelude.{All, Bool, Contains, List, false, is_some, map, nat_eq, option_to_list, true, ℕ, ◌∷◌, ◌≡◌}
use Rattle.vt_spec.specs.Language.Calls.{MountFlags}
use Rattle.vt_spec.specs.Lists.{Fresh}
use Rattle.vt_spec.specs.Machine.Apply.{apply}
use Rattle.vt_spec.specs.Machine.Attach.{Copies, attached_by}
use Rattle.vt_spec.specs.Machine.Mounts.{Location, Mount}
use Rattle.vt_spec.specs.Machine.NewMounts.{mounted}
use Rattle.vt_spec.specs.Machine.Permits.Permit.{ToBind, ToMountPlain, ToMove}
use Rattle.vt_spec.specs.Machine.Settled.{settled}
use Rattle.vt_spec.specs.Machine.World.{Filesystem, Task, World, mount_numbered}
use Rattle.vt_laws_mounts.specs.LettingGo.Keeping.{LocationsStand, has_only_named}
use Rattle.vt_laws_mounts.specs.LettingGo.InUse.{AllInUse}
use Rattle.vt_laws_mounts.specs.LettingGo.Leaving.{IsSettledPlain, MountsStand}
use Rattle.vt_laws_mounts.specs.LettingGo.Mounting.{inode_at}
use Rattle.vt_laws_mounts.specs.LettingGo.OneByOne.{Inode, let_go_inodes}

-- the mount of this number is in a namespace
abbrev pub is_attached : World ℕ → ℕ → Bool
is_attached world number = is_some (mount_numbered nat_eq world number).namespace

-- Where a tree of copies is attached at a mount in a namespace, nothing goes, in any world in which all was in use. A
-- mount that stood at this location of a receiver leaves it to the first copy, on which it is then.
abbrev pub CopiesKeepAll : Type 0
CopiesKeepAll =
    (world : World ℕ) (new : Copies ℕ) (place : Location ℕ) (first : Mount ℕ) (rest : List (Mount ℕ))
    → AllInUse world → MountsStand world → LocationsStand world → is_attached world place.mount ≡ true
    → settled nat_eq (attached_by nat_eq world new place false (first ∷ rest))
    ≡ attached_by nat_eq world new place false (first ∷ rest)

-- A bind, recursive or not, takes nothing away,
abbrev pub BindsKeepAll : Type 0
BindsKeepAll =
    (fresh : Fresh ℕ) (world : World ℕ) (task : Task ℕ) (source place : Location ℕ) (recursive : Bool)
    → AllInUse world → MountsStand world → LocationsStand world → is_attached world place.mount ≡ true
    → settled nat_eq (apply nat_eq fresh world task (ToBind source place recursive)).world
    ≡ (apply nat_eq fresh world task (ToBind source place recursive)).world

-- nor does a mount of a new filesystem, an overlay or not, of which each inode is the root or has a name,
abbrev pub NewFilesystemsKeepAll : Type 0
NewFilesystemsKeepAll =
    (fresh : Fresh ℕ) (world : World ℕ) (place : Location ℕ) (filesystem : Filesystem ℕ) (flags : MountFlags)
    → AllInUse world → MountsStand world → LocationsStand world → is_attached world place.mount ≡ true
    → has_only_named filesystem ≡ true
    → settled nat_eq (mounted nat_eq fresh world place filesystem flags)
    ≡ mounted nat_eq fresh world place filesystem flags

-- as one that is empty.
abbrev pub NewMountsOfTreesKeepAll : Type 0
NewMountsOfTreesKeepAll =
    (fresh : Fresh ℕ) (world : World ℕ) (task : Task ℕ) (place : Location ℕ) (flags : MountFlags)
    → AllInUse world → MountsStand world → LocationsStand world → is_attached world place.mount ≡ true
    → settled nat_eq (apply nat_eq fresh world task (ToMountPlain place flags)).world
    ≡ (apply nat_eq fresh world task (ToMountPlain place flags)).world

-- the inode of a mount's mount point, if it has one
abbrev pub inodes_of_mount_point : World ℕ → Mount ℕ → List Inode
inodes_of_mount_point world mount = map (inode_at world) (option_to_list mount.mount_point)

-- Where mounts move, with copies at receivers, at the most the inode goes that was the mount point of the first, and
-- nothing else: each other one keeps its mount point.
abbrev pub MovedTreesLetGo : Type 0
MovedTreesLetGo =
    (world : World ℕ) (new : Copies ℕ) (place : Location ℕ) (first : Mount ℕ) (rest : List (Mount ℕ))
    → IsSettledPlain world → LocationsStand world → is_attached world place.mount ≡ true
    → All (Contains world.mounts) (first ∷ rest)
    → settled nat_eq (attached_by nat_eq world new place true (first ∷ rest))
    ≡ let_go_inodes (attached_by nat_eq world new place true (first ∷ rest)) (inodes_of_mount_point world first)

-- So it is of a move: the mount and all mounts below it.
abbrev pub MovesLetGo : Type 0
MovesLetGo =
    (fresh : Fresh ℕ) (world : World ℕ) (task : Task ℕ) (mount : ℕ) (place : Location ℕ)
    → IsSettledPlain world → LocationsStand world → is_attached world place.mount ≡ true
    → is_attached world mount ≡ true
    → settled nat_eq (apply nat_eq fresh world task (ToMove mount place)).world
    ≡ let_go_inodes (apply nat_eq fresh world task (ToMove mount place)).world
    (inodes_of_mount_point world (mount_numbered nat_eq world mount))
