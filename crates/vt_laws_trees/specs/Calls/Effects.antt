-- A right stands behind each effect: what a call tells its task may read, and what it changes its task may write, or
-- owns.
use Rattle.std.specs.Prelude.{Bool, List, Ok, Some, drop, false, nat_eq, take, true, ℕ, ◌==◌, ◌||◌, ◌≡◌, ◌⊎◌}
use Rattle.vt_laws_trees.specs.Calls.Inodes.{IsNotHanded, owner_of}
use Rattle.vt_spec.specs.declared.attributes.Kind.TheVariants.{Symlink}
use Rattle.vt_spec.specs.FileTree.{is_kind_in, opaque_of}
use Rattle.vt_spec.specs.Language.Answers.Answer.{Bytes, Names, Opened}
use Rattle.vt_spec.specs.Language.Calls.{Access, Call, TaskName}
use Rattle.vt_spec.specs.Language.Calls.Call.{Ls, Pread, Read, Readlink}
use Rattle.vt_spec.specs.Lists.{Fresh}
use Rattle.vt_spec.specs.Machine.Apply.{apply}
use Rattle.vt_spec.specs.Machine.Judge.{judge_in}
use Rattle.vt_spec.specs.Machine.Looks.{looks_of}
use Rattle.vt_spec.specs.Machine.Mounts.{Location}
use Rattle.vt_spec.specs.Machine.Descriptors.{opened}
use Rattle.vt_spec.specs.Machine.Permits.{Permit}
use Rattle.vt_spec.specs.Machine.Policy.{policy}
use Rattle.vt_spec.specs.Machine.Rightful.{node_allows}
use Rattle.vt_spec.specs.Machine.Rules.Descriptors.{access_rights, descriptor_numbered}
use Rattle.vt_spec.specs.Machine.Walking.{Here, directory_walk, object_walk, symlink_walk}
use Rattle.vt_spec.specs.Machine.World.{Descriptor, Task, World, mount_at, node_at, task_called}
use Rattle.vt_spec.specs.Rights.{cap_chown, cap_sys_admin, execute_right, has_all, owns, read_right, write_right}
use Rattle.vt_spec.specs.Tree.{Node, bytes_in, bytes_of, entries_of, entry_named, names_in}
use Rattle.vt_laws_trees.specs.Trees.Calls.{mounts_overlay}
use Rattle.vt_laws_rules.specs.Plain.{IsPlain}
use Rattle.vt_laws_trees.specs.Trees.Settling.{inode_in}

-- the task has the wanted rights on an inode of a filesystem: path_resolution(7), "Permissions"
abbrev pub MayDo : World ℕ → Task ℕ → ℕ → ℕ → ℕ → Type 0
MayDo world task filesystem number wanted =
    node_allows task.credentials wanted (inode_in world filesystem number) ≡ true

-- it has the inode open for this: open(2)
abbrev pub HasOpenFor : (Descriptor ℕ → Bool) → World ℕ → Task ℕ → ℕ → ℕ → Type 0
HasOpenFor fits world task filesystem number =
    (descriptor : Descriptor ℕ) × (which : ℕ) × (descriptor_numbered task which ≡ Some descriptor)
    × (fits descriptor ≡ true)
    × (filesystem ≡ (mount_at nat_eq world descriptor.location).filesystem) × (number ≡ descriptor.location.node)

-- What is otherwise than it was is so by right: bytes, as the task may write the object, or has it open for writing;
-- the mode, as it owns the object; owner and group, as the object is its own, or by CAP_CHOWN; an entry, as it may
-- write and search the directory; the opaque mark by CAP_SYS_ADMIN.
pub record IsByRight (world : World ℕ) (task : Task ℕ) (filesystem number : ℕ) (was now : Node ℕ) : Type 0 where
  pub bytes : (bytes_of now.content ≡ bytes_of was.content)
      ⊎ (MayDo world task filesystem number write_right
      ⊎ HasOpenFor (λ descriptor. descriptor.writes) world task filesystem number)
  pub mode : (now.attr.mode ≡ was.attr.mode) ⊎ (owns task.credentials was.attr ≡ true)
  pub owner : (owner_of now ≡ owner_of was)
      ⊎ ((has_all task.credentials.capabilities cap_chown || (task.credentials.uid == was.attr.uid)) ≡ true)
  pub entries : (entry : List ℕ)
      → (entry_named entry (entries_of now.content) ≡ entry_named entry (entries_of was.content))
      ⊎ (MayDo world task filesystem number write_right × MayDo world task filesystem number execute_right)
  pub mark : (opaque_of now.content ≡ opaque_of was.content)
      ⊎ (has_all task.credentials.capabilities cap_sys_admin ≡ true)

-- So it is of each inode that a granted call leaves, in worlds without overlays. A refused one leaves all.
abbrev pub ChangesAreByRight : Type 0
ChangesAreByRight =
    (fresh : Fresh ℕ) (world : World ℕ) (name : TaskName) (call : Call) (task : Task ℕ) (permit : Permit ℕ)
    (filesystem number : ℕ) (was now : Node ℕ)
    → IsPlain world → mounts_overlay call ≡ false
    → task_called world name ≡ Some task → judge_in nat_eq fresh world task call ≡ Ok permit → IsNotHanded fresh number
    → inode_in world filesystem number ≡ Some was
    → inode_in (policy nat_eq fresh world name call).world filesystem number ≡ Some now
    → IsByRight world task filesystem number was now

-- What a call tells of: that to which its path leads.
pub data TellsOf (world : World ℕ) (task : Task ℕ) : Call → Location ℕ → Type 0 where
  a_directory : (path : List ℕ) (here : Here ℕ)
      → directory_walk nat_eq (looks_of nat_eq world) task path ≡ Ok here → TellsOf world task (Ls path) here.location
  an_object : (path : List ℕ) (here : Here ℕ)
      → object_walk nat_eq (looks_of nat_eq world) task path ≡ Ok here → TellsOf world task (Read path) here.location
  a_symlink : (path : List ℕ) (here : Here ℕ)
      → symlink_walk nat_eq (looks_of nat_eq world) task path ≡ Ok here
      → TellsOf world task (Readlink path) here.location

-- Names that a granted call tells are those of the directory that its path leads to, which the task may read:
-- getdents(2).
abbrev pub NamesAreToldByRight : Type 0
NamesAreToldByRight =
    (fresh : Fresh ℕ) (world : World ℕ) (call : Call) (task : Task ℕ) (permit : Permit ℕ) (names : List (List ℕ))
    → judge_in nat_eq fresh world task call ≡ Ok permit
    → (apply nat_eq fresh world task permit).answer ≡ Ok (Names names)
    → (directory : Location ℕ) × TellsOf world task call directory
    × (names ≡ names_in (node_at nat_eq world directory))
    × (node_allows task.credentials read_right (node_at nat_eq world directory) ≡ true)

-- Bytes that it tells are those of the object that its path leads to, which the task may read; the text of the symlink
-- that its path leads to; or a part of those of a file that it has open for reading: read(2), readlink(2), pread(2).
abbrev pub BytesAreToldByRight : Type 0
BytesAreToldByRight =
    (fresh : Fresh ℕ) (world : World ℕ) (call : Call) (task : Task ℕ) (permit : Permit ℕ) (bytes : List ℕ)
    → judge_in nat_eq fresh world task call ≡ Ok permit
    → (apply nat_eq fresh world task permit).answer ≡ Ok (Bytes bytes)
    → ((file : Location ℕ) × TellsOf world task call file × (bytes ≡ bytes_in (node_at nat_eq world file))
    × (node_allows task.credentials read_right (node_at nat_eq world file) ≡ true))
    ⊎ (((file : Location ℕ) × TellsOf world task call file × (bytes ≡ bytes_in (node_at nat_eq world file))
    × (is_kind_in Symlink (node_at nat_eq world file) ≡ true))
    ⊎ ((descriptor : Descriptor ℕ) × (which offset size : ℕ) × (call ≡ Pread which offset size)
    × (descriptor_numbered task which ≡ Some descriptor) × (descriptor.reads ≡ true) × (bytes
    ≡ take size (drop offset (bytes_in (node_at nat_eq world descriptor.location))))))

-- A descriptor that a granted call gives is for a file that the task may read and write as it asked, both as one
-- request, or for a new one: open(2).
abbrev pub OpensAreByRight : Type 0
OpensAreByRight =
    (fresh : Fresh ℕ) (world : World ℕ) (call : Call) (task : Task ℕ) (permit : Permit ℕ) (number : ℕ)
    → judge_in nat_eq fresh world task call ≡ Ok permit
    → (apply nat_eq fresh world task permit).answer ≡ Ok (Opened number)
    → (file : Location ℕ) × (access : Access) × (left : World ℕ)
    × (apply nat_eq fresh world task permit ≡ opened left task file access)
    × ((node_allows task.credentials (access_rights access) (node_at nat_eq world file) ≡ true) ⊎ (file.node ≡ fresh 0))
