-- What the judgement of a call sees to, but of the mount of an overlay: the places at which a permitted call changes
-- something, and the mounts and namespaces that it names, exist. Of a permit that only looks nothing is said.
use Rattle.std.specs.Prelude.{None, Some, false, is_some, nat_eq, option_to_list, true, ℕ, ⊤, ◌&&◌, ◌≡◌}
use Rattle.std.specs.List.{list_all, list_any}
use Rattle.vt_spec.specs.declared.attributes.Kind.TheVariants.{File}
use Rattle.vt_spec.specs.Machine.Apply.{apply}
use Rattle.vt_spec.specs.Machine.Attach.{has_too_many}
use Rattle.vt_spec.specs.Language.Changes.{Change}
use Rattle.vt_spec.specs.Language.Changes.Change.{AddName, CopyUp, Make, Move, Remove, SetAttr, SetBytes, SetMark}
use Rattle.vt_spec.specs.Machine.Detach.{is_busy}
use Rattle.vt_spec.specs.FileTree.{is_kind_in}
use Rattle.vt_spec.specs.Lists.{Fresh}
use Rattle.vt_spec.specs.Machine.Looks.{looks_of}
use Rattle.vt_spec.specs.Machine.Mounts.{Location, Mount, child_at, is_shared, is_unbindable, mount_tree}
use Rattle.vt_spec.specs.Machine.Permits.{Permit}
use Rattle.vt_spec.specs.Machine.Permits.Permit.{Allowed, ToBind, ToChange, ToClose, ToEnterNamespace, ToExit, ToFork, ToList, ToListMounts, ToMake, ToMountOverlay, ToMountPlain, ToMove, ToOpen, ToOpenNew, ToPivot, ToRead, ToReadPart, ToRemoveDirectory, ToRename, ToSetCredentials, ToSetDirectory, ToSetFlags, ToSetRoot, ToSetType, ToSetUmask, ToStat, ToUnmount, ToUnmountLazily, ToUnshare, ToWritePart}
use Rattle.vt_spec.specs.Machine.Rules.Mounting.{is_on_descendant, lies_under_location}
use Rattle.vt_spec.specs.Machine.World.{Task, World, is_directory_at, mount_at, mount_numbered, node_at}
use Rattle.vt_spec.specs.Machine.Invariants.{is_listed, is_located_well}

-- what a walk of a task reaches is there, on a mount of the task's namespace or on one that is in none:
-- path_resolution(7)
pub record IsReached (world : World ℕ) (task : Task ℕ) (location : Location ℕ) : Type 0 where
  pub there : is_located_well nat_eq world location ≡ true
  pub seen : list_all (nat_eq task.namespace) (option_to_list (mount_at nat_eq world location).namespace) ≡ true

pub record IsReachedDirectory (world : World ℕ) (task : Task ℕ) (location : Location ℕ) : Type 0 where
  pub reached : IsReached world task location
  pub directory : is_directory_at nat_eq world location ≡ true

pub record IsReachedFile (world : World ℕ) (task : Task ℕ) (location : Location ℕ) : Type 0 where
  pub reached : IsReached world task location
  pub regular : is_kind_in File (node_at nat_eq world location) ≡ true

-- M2: the mount is in the task's namespace
abbrev pub IsOwn : World ℕ → Task ℕ → ℕ → Type 0
IsOwn world task mount = (mount_numbered nat_eq world mount).namespace ≡ Some task.namespace

-- a directory on which a mount may be attached: mount(2)
pub record IsDestination (world : World ℕ) (task : Task ℕ) (place : Location ℕ) : Type 0 where
  pub directory : IsReachedDirectory world task place
  pub own : IsOwn world task place.mount
  pub free : child_at nat_eq world.mounts place ≡ None

-- only the bytes of a regular file are set
abbrev pub SetsBytesOfFiles : World ℕ → Location ℕ → Change ℕ → Type 0
SetsBytesOfFiles world location (Make directory name number node) = ⊥
SetsBytesOfFiles world location (AddName directory name object) = ⊤
SetsBytesOfFiles world location (Remove directory name object) = ⊤
SetsBytesOfFiles world location (Move from old to new object) = ⊤
SetsBytesOfFiles world location (SetBytes file bytes) =
    is_kind_in File (node_at nat_eq world (record location { node = file })) ≡ true
SetsBytesOfFiles world location (SetAttr object attr) = ⊤
SetsBytesOfFiles world location (SetMark directory opaque) = ⊤
SetsBytesOfFiles world location (CopyUp object) = ⊤

-- a tree of mounts that may move to a place: mount(2) with MS_MOVE, EINVAL and ELOOP
pub record MayMoveTo (world : World ℕ) (task : Task ℕ) (mount : ℕ) (place : Location ℕ) : Type 0 where
  pub destination : IsDestination world task place
  pub own : IsOwn world task mount
  pub placed : is_some (mount_numbered nat_eq world mount).mount_point ≡ true
  pub unshared_parent : list_any (λ (at : Location ℕ). is_shared (mount_at nat_eq world at).propagation)
      (option_to_list (mount_numbered nat_eq world mount).mount_point) ≡ false
  pub no_unbindable : (is_shared (mount_at nat_eq world place).propagation
      && list_any (λ (other : Mount ℕ). is_unbindable other.propagation)
      (mount_tree nat_eq world.mounts (mount_numbered nat_eq world mount))) ≡ false
  pub not_inside : list_any (λ (other : Mount ℕ). nat_eq other.number place.mount)
      (mount_tree nat_eq world.mounts (mount_numbered nat_eq world mount)) ≡ false

-- what pivot_root(2) checks that the invariants need: EINVAL and EBUSY
pub record MayPivot (world : World ℕ) (task : Task ℕ) (new : ℕ) (put : Location ℕ) : Type 0 where
  pub destination : IsDestination world task put
  pub own : IsOwn world task new
  pub own_root : IsOwn world task task.root.mount
  pub another : nat_eq new task.root.mount ≡ false
  pub put_elsewhere : nat_eq put.mount task.root.mount ≡ false
  pub below_root : (node : ℕ) → is_on_descendant nat_eq (looks_of nat_eq world) task.root.mount
      (record { mount = new; node = node }) ≡ true
  pub put_under : (node : ℕ) → node ≡ (mount_numbered nat_eq world new).root
      → lies_under_location nat_eq (looks_of nat_eq world) (record { mount = new; node = node }) put ≡ true

-- a permit fits a world: no namespace gets too many mounts, and what is named is there
abbrev pub NamesWhatIsThere : World ℕ → Task ℕ → Permit ℕ → Type 0
NamesWhatIsThere world task Allowed = ⊤
NamesWhatIsThere world task (ToList directory) = ⊤
NamesWhatIsThere world task (ToStat object) = ⊤
NamesWhatIsThere world task (ToRead file) = ⊤
NamesWhatIsThere world task (ToReadPart file offset size) = ⊤
NamesWhatIsThere world task (ToChange location change) =
    IsReached world task location × SetsBytesOfFiles world location change
NamesWhatIsThere world task (ToMake directory name node) = IsReachedDirectory world task directory
NamesWhatIsThere world task (ToRemoveDirectory parent name directory) =
    IsReachedDirectory world task parent × IsReachedDirectory world task directory
NamesWhatIsThere world task (ToRename from old to new object replaced) =
    IsReachedDirectory world task from × IsReachedDirectory world task to × IsReached world task object
    × ((other : Location ℕ) → replaced ≡ Some other → IsReached world task other)
NamesWhatIsThere world task (ToOpen file access) = IsReachedFile world task file
NamesWhatIsThere world task (ToOpenNew directory name node access) =
    IsReachedDirectory world task directory × (is_kind_in File (Some node) ≡ true)
NamesWhatIsThere world task (ToWritePart file offset bytes) = is_kind_in File (node_at nat_eq world file) ≡ true
NamesWhatIsThere world task (ToClose descriptor) = ⊤
NamesWhatIsThere world task (ToSetDirectory directory) = IsReachedDirectory world task directory
NamesWhatIsThere world task (ToSetRoot root) = IsReachedDirectory world task root
NamesWhatIsThere world task (ToSetUmask umask) = ⊤
NamesWhatIsThere world task (ToSetCredentials credentials) = ⊤
NamesWhatIsThere world task (ToFork credentials) = ⊤
NamesWhatIsThere world task ToExit = ⊤
NamesWhatIsThere world task ToUnshare = ⊤
NamesWhatIsThere world task (ToEnterNamespace namespace) = is_listed nat_eq world namespace ≡ true
NamesWhatIsThere world task (ToMountPlain place flags) = IsDestination world task place
NamesWhatIsThere world task (ToMountOverlay place overlay flags) = ⊥
NamesWhatIsThere world task (ToBind source place recursive) =
    IsReachedDirectory world task source × IsOwn world task source.mount × IsDestination world task place
    × (is_unbindable (mount_at nat_eq world source).propagation ≡ false)
NamesWhatIsThere world task (ToMove mount place) = MayMoveTo world task mount place
NamesWhatIsThere world task (ToUnmount mount) =
    IsOwn world task mount × (is_some (mount_numbered nat_eq world mount).mount_point ≡ true)
    × (is_busy nat_eq world mount ≡ false)
NamesWhatIsThere world task (ToUnmountLazily mount) =
    IsOwn world task mount × (is_some (mount_numbered nat_eq world mount).mount_point ≡ true)
NamesWhatIsThere world task (ToSetFlags mount flags) = IsOwn world task mount
NamesWhatIsThere world task (ToSetType mount word recursive) = IsOwn world task mount
NamesWhatIsThere world task (ToPivot new put) = MayPivot world task new put
NamesWhatIsThere world task ToListMounts = ⊤

pub record IsFitPermit (fresh : Fresh ℕ) (world : World ℕ) (task : Task ℕ) (permit : Permit ℕ) : Type 0 where
  pub names : NamesWhatIsThere world task permit
  pub few_mounts : has_too_many nat_eq (apply nat_eq fresh world task permit).world ≡ false
