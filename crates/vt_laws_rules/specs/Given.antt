-- Which call each permit is given to, and what it holds of what the call asked.
use Rattle.std.specs.Prelude.{Bool, List, Ok, Option, false, nat_eq, true, ℕ, ◌≡◌, ◌⊎◌}
use Rattle.vt_spec.specs.declared.attributes.Attr.{Attr}
use Rattle.vt_spec.specs.Errors.{NoneFails}
use Rattle.vt_spec.specs.Language.Calls.{Call, CapabilityWord, Creation, ForkWords, OverlayWords, TaskName}
use Rattle.vt_spec.specs.Language.Calls.Call.{Bind, Chdir, Chmod, Chown, Chroot, Close, Drop, Exec, Exit, Fork, Lazy, LinkTo, ListMounts, Ls, Lstat, MakeWhiteout, Mkdir, MountOverlay, MountPlain, MoveMount, Opaque, OpenFile, PivotRoot, Pread, Pwrite, Read, Readlink, Remount, Rename, Rmdir, SetType, Setns, Stat, SymlinkAt, Umask, Umount, Unlink, Unshare, Write}
use Rattle.vt_spec.specs.Language.Calls.Creation.{Exclusive, NoCreation, OrCreate}
use Rattle.vt_spec.specs.Language.Changes.Change.{AddName, CopyUp, Make, Move, Remove, SetAttr, SetBytes, SetMark}
use Rattle.vt_spec.specs.Machine.Judge.{judge_in}
use Rattle.vt_spec.specs.Lists.{Fresh}
use Rattle.vt_spec.specs.Machine.Looks.{Looks, looks_of}
use Rattle.vt_spec.specs.Machine.Mounts.{Location}
use Rattle.vt_spec.specs.Machine.Attributes.{attr_with_mode, attr_with_owner}
use Rattle.vt_spec.specs.Machine.Tasks.{capabilities_of, child_credentials, permission_bits, with_dropped}
use Rattle.vt_spec.specs.Machine.Permits.{Permit}
use Rattle.vt_spec.specs.Machine.Permits.Permit.{Allowed, ToBind, ToChange, ToClose, ToEnterNamespace, ToExit, ToFork, ToList, ToListMounts, ToMake, ToMountOverlay, ToMountPlain, ToMove, ToOpen, ToOpenNew, ToPivot, ToRead, ToReadPart, ToRemoveDirectory, ToRename, ToSetCredentials, ToSetDirectory, ToSetFlags, ToSetRoot, ToSetType, ToSetUmask, ToStat, ToUnmount, ToUnmountLazily, ToUnshare, ToWritePart}
use Rattle.vt_spec.specs.Machine.Rules.Attributes.{attr_at}
use Rattle.vt_spec.specs.Machine.Rules.Tasks.{fork_rules}
use Rattle.vt_spec.specs.Machine.World.{Task, World}

-- open(2) makes a file only with O_CREAT
abbrev pub may_create : Creation → Bool
may_create NoCreation = false
may_create (OrCreate mode) = true
may_create (Exclusive mode) = true

-- mkdir(2), symlink(2), mknod(2), and open(2) with O_CREAT before write(2)
abbrev pub makes_a_name : Call → Bool
makes_a_name (Write path bytes) = true
makes_a_name (Mkdir path mode) = true
makes_a_name (SymlinkAt text path) = true
makes_a_name (MakeWhiteout path) = true
makes_a_name call = false

-- execve(2), and rename(2) of two names of one object
abbrev pub may_do_nothing : Call → Bool
may_do_nothing (Exec path) = true
may_do_nothing (Rename old new) = true
may_do_nothing call = false

-- chmod(2) sets the mode alone, chown(2) owner and group alone
abbrev pub IsForAttr : Looks ℕ → Call → Location ℕ → Attr → Type 0
IsForAttr looks call location attr =
    ((path : List ℕ) × (mode : ℕ) × (call ≡ Chmod path mode) × (attr ≡ attr_with_mode (attr_at looks location) mode))
    ⊎ ((path : List ℕ) × (uid : Option ℕ) × (gid : Option ℕ) × (call ≡ Chown path uid gid)
    × (attr ≡ attr_with_owner (attr_at looks location) uid gid))

abbrev pub IsFor : Looks ℕ → Task ℕ → Call → Permit ℕ → Type 0
IsFor looks task call Allowed = may_do_nothing call ≡ true
IsFor looks task call (ToList directory) = (path : List ℕ) × (call ≡ Ls path)
IsFor looks task call (ToStat object) = ((path : List ℕ) × (call ≡ Stat path)) ⊎ ((path : List ℕ) × (call ≡ Lstat path))
IsFor looks task call (ToRead file) =
    ((path : List ℕ) × (call ≡ Read path)) ⊎ ((path : List ℕ) × (call ≡ Readlink path))
IsFor looks task call (ToReadPart file offset size) = (descriptor : ℕ) × (call ≡ Pread descriptor offset size)
IsFor looks task call (ToChange location (Make directory name number node)) = ⊥
IsFor looks task call (ToChange location (AddName directory name object)) =
    (old : List ℕ) × (new : List ℕ) × (call ≡ LinkTo old new) × (directory ≡ location.node)
IsFor looks task call (ToChange location (Remove directory name object)) =
    (path : List ℕ) × (call ≡ Unlink path) × (directory ≡ location.node)
IsFor looks task call (ToChange location (Move from old to new object)) = ⊥
IsFor looks task call (ToChange location (SetBytes file bytes)) =
    (path : List ℕ) × (call ≡ Write path bytes) × (file ≡ location.node)
IsFor looks task call (ToChange location (SetAttr object attr)) =
    (object ≡ location.node) × IsForAttr looks call location attr
IsFor looks task call (ToChange location (SetMark directory mark)) =
    (path : List ℕ) × (call ≡ Opaque path mark) × (directory ≡ location.node)
IsFor looks task call (ToChange location (CopyUp object)) = ⊥
IsFor looks task call (ToMake directory name node) = makes_a_name call ≡ true
IsFor looks task call (ToRemoveDirectory parent name directory) = (path : List ℕ) × (call ≡ Rmdir path)
IsFor looks task call (ToRename from old to new object replaced) =
    (before : List ℕ) × (later : List ℕ) × (call ≡ Rename before later)
IsFor looks task call (ToOpen file access) =
    (path : List ℕ) × (creation : Creation) × (call ≡ OpenFile path access creation)
IsFor looks task call (ToOpenNew directory name node access) =
    (path : List ℕ) × (creation : Creation) × (call ≡ OpenFile path access creation) × (may_create creation ≡ true)
IsFor looks task call (ToWritePart file offset bytes) = (descriptor : ℕ) × (call ≡ Pwrite descriptor offset bytes)
IsFor looks task call (ToClose descriptor) = call ≡ Close descriptor
IsFor looks task call (ToSetDirectory directory) = (path : List ℕ) × (call ≡ Chdir path)
IsFor looks task call (ToSetRoot root) = (path : List ℕ) × (call ≡ Chroot path)
IsFor looks task call (ToSetUmask umask) = (mode : ℕ) × (call ≡ Umask mode) × (umask ≡ permission_bits mode)
IsFor looks task call (ToSetCredentials credentials) =
    (which : CapabilityWord) × (call ≡ Drop which)
    × (credentials ≡ with_dropped task.credentials (capabilities_of which task.credentials))
IsFor looks task call (ToFork credentials) =
    (words : Option ForkWords) × (call ≡ Fork words) × (credentials ≡ child_credentials task.credentials words)
    × NoneFails (fork_rules task credentials)
IsFor looks task call ToExit = call ≡ Exit
IsFor looks task call ToUnshare = call ≡ Unshare
IsFor looks task call (ToEnterNamespace namespace) = (name : TaskName) × (call ≡ Setns name)
IsFor looks task call (ToMountPlain place flags) = (path : List ℕ) × (call ≡ MountPlain path flags)
IsFor looks task call (ToMountOverlay place overlay flags) =
    (path : List ℕ) × (options : Option OverlayWords) × (call ≡ MountOverlay path options flags)
IsFor looks task call (ToBind source place recursive) =
    (from : List ℕ) × (path : List ℕ) × (call ≡ Bind from path recursive)
IsFor looks task call (ToMove mount place) = (from : List ℕ) × (path : List ℕ) × (call ≡ MoveMount from path)
IsFor looks task call (ToUnmount mount) = (path : List ℕ) × (call ≡ Umount path)
IsFor looks task call (ToUnmountLazily mount) = (path : List ℕ) × (call ≡ Lazy path)
IsFor looks task call (ToSetFlags mount flags) = (path : List ℕ) × (call ≡ Remount path flags)
IsFor looks task call (ToSetType mount word recursive) = (path : List ℕ) × (call ≡ SetType path word recursive)
IsFor looks task call (ToPivot mount put) = (new : List ℕ) × (old : List ℕ) × (call ≡ PivotRoot new old)
IsFor looks task call ToListMounts = call ≡ ListMounts

abbrev pub PermitsAreForTheirCalls : Type 0
PermitsAreForTheirCalls =
    (fresh : Fresh ℕ) (world : World ℕ) (task : Task ℕ) (call : Call) (permit : Permit ℕ)
    → judge_in nat_eq fresh world task call ≡ Ok permit → IsFor (looks_of nat_eq world) task call permit
