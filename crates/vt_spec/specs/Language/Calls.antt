-- The calls of a task, as a script names them: each is the system call named with it, in the profile's spelling.
use Rattle.std.specs.Prelude.{Bool, List, Option, false, true, ℕ}
use Rattle.std.specs.Str.{bytes_eq}

-- a task's name is the numbers after its `t`, so `t` itself is the empty list
abbrev pub TaskName : Type 0
TaskName = List ℕ

-- two names of tasks are the same
abbrev pub same_name : TaskName → TaskName → Bool
same_name a b = bytes_eq a b

-- MS_RDONLY, MS_NOEXEC and MS_NOSYMFOLLOW of one mount: mount(2)
pub record MountFlags : Type 0 where
  pub read_only : Bool
  pub noexec : Bool
  pub nosymfollow : Bool

-- no flags: a mount that is written to, with `exec` and symlinks
abbrev pub plain_flags : MountFlags
plain_flags = record { read_only = false; noexec = false; nosymfollow = false }

-- the capabilities that a word names: all that the caller holds, or a set of bits
pub data CapabilityWord : Type 0 where
  Held : CapabilityWord
  These : (capabilities : ℕ) → CapabilityWord

-- what a file is opened for: O_RDONLY, O_WRONLY or O_RDWR of open(2)
pub data Access : Type 0 where
  ReadOnly : Access
  WriteOnly : Access
  ReadWrite : Access

-- a descriptor opened so may be read: O_RDONLY and O_RDWR of open(2)
abbrev pub opens_for_reading : Access → Bool
opens_for_reading Access.ReadOnly = true
opens_for_reading Access.WriteOnly = false
opens_for_reading Access.ReadWrite = true

-- a descriptor opened so may be written: O_WRONLY and O_RDWR of open(2)
abbrev pub opens_for_writing : Access → Bool
opens_for_writing Access.ReadOnly = false
opens_for_writing Access.WriteOnly = true
opens_for_writing Access.ReadWrite = true

-- what open(2) does where the name is missing: nothing, O_CREAT with a mode, or O_CREAT and O_EXCL
pub data Creation : Type 0 where
  NoCreation : Creation
  OrCreate : (mode : ℕ) → Creation
  Exclusive : (mode : ℕ) → Creation

-- the credentials that fork is given for the child
pub record ForkWords : Type 0 where
  pub uid : ℕ
  pub gid : ℕ
  pub groups : List ℕ
  pub capabilities : CapabilityWord

-- the options of an overlay mount: of each, the paths that count
pub record OverlayWords : Type 0 where
  pub lowers : List (List ℕ)
  pub upper : Option (List ℕ)
  pub work : Option (List ℕ)

-- the types of mount(2) with MS_SHARED, MS_SLAVE, MS_PRIVATE and MS_UNBINDABLE
pub data TypeWord : Type 0 where
  ToShared : TypeWord
  ToSlave : TypeWord
  ToPrivate : TypeWord
  ToUnbindable : TypeWord

-- a call, with the words that the script gives it
pub data Call : Type 0 where
  -- open(2) with O_DIRECTORY, then getdents(2)
  Ls : (path : List ℕ) → Call
  -- stat(2), lstat(2), readlink(2)
  Stat : (path : List ℕ) → Call
  Lstat : (path : List ℕ) → Call
  Readlink : (path : List ℕ) → Call
  -- open(2) with O_RDONLY, then read(2) to the end
  Read : (path : List ℕ) → Call
  -- open(2) with O_WRONLY, O_CREAT and O_TRUNC, then write(2)
  Write : (path : List ℕ) → (bytes : List ℕ) → Call
  -- execve(2), as far as it asks for rights
  Exec : (path : List ℕ) → Call
  -- mkdir(2), symlink(2), mknod(2) of a whiteout, link(2)
  Mkdir : (path : List ℕ) → (mode : Option ℕ) → Call
  SymlinkAt : (text : List ℕ) → (path : List ℕ) → Call
  MakeWhiteout : (path : List ℕ) → Call
  LinkTo : (old : List ℕ) → (new : List ℕ) → Call
  -- unlink(2), rmdir(2), rename(2)
  Unlink : (path : List ℕ) → Call
  Rmdir : (path : List ℕ) → Call
  Rename : (old : List ℕ) → (new : List ℕ) → Call
  -- chmod(2), chown(2), setxattr(2) of the opaque mark
  Chmod : (path : List ℕ) → (mode : ℕ) → Call
  Chown : (path : List ℕ) → (uid : Option ℕ) → (gid : Option ℕ) → Call
  Opaque : (path : List ℕ) → (mark : Bool) → Call
  -- open(2), pread(2), pwrite(2), close(2)
  OpenFile : (path : List ℕ) → (access : Access) → (creation : Creation) → Call
  Pread : (descriptor : ℕ) → (offset : ℕ) → (size : ℕ) → Call
  Pwrite : (descriptor : ℕ) → (offset : ℕ) → (bytes : List ℕ) → Call
  Close : (descriptor : ℕ) → Call
  -- chdir(2), chroot(2), umask(2), capset(2), fork(2), _exit(2)
  Chdir : (path : List ℕ) → Call
  Chroot : (path : List ℕ) → Call
  Umask : (mode : ℕ) → Call
  Drop : (which : CapabilityWord) → Call
  Fork : (words : Option ForkWords) → Call
  Exit : Call
  -- unshare(2) with CLONE_NEWNS, setns(2)
  Unshare : Call
  Setns : (task : List ℕ) → Call
  -- mount(2) in its forms; options that are no list of options name no layers
  MountPlain : (path : List ℕ) → (flags : MountFlags) → Call
  MountOverlay : (path : List ℕ) → (options : Option OverlayWords) → (flags : MountFlags) → Call
  Bind : (source : List ℕ) → (path : List ℕ) → (recursive : Bool) → Call
  MoveMount : (source : List ℕ) → (path : List ℕ) → Call
  Umount : (path : List ℕ) → Call
  Lazy : (path : List ℕ) → Call
  Remount : (path : List ℕ) → (flags : MountFlags) → Call
  SetType : (path : List ℕ) → (word : TypeWord) → (recursive : Bool) → Call
  -- pivot_root(2)
  PivotRoot : (new : List ℕ) → (put : List ℕ) → Call
  -- mountinfo of proc(5)
  ListMounts : Call

-- what nobody's line asks of the machine itself (profile)
pub data Directive : Type 0 where
  AskPeers : Directive
  AskSealed : (tasks : List (List ℕ)) → Directive
