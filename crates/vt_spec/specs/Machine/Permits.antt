-- What a call may do that no rule refuses: its permit, which names everything that it acts on.
use Rattle.std.specs.Prelude.{Bool, List, Option, ℕ}
use Rattle.vt_spec.specs.Language.Calls.{Access, MountFlags, TypeWord}
use Rattle.vt_spec.specs.Language.Changes.{Change}
use Rattle.vt_spec.specs.Machine.Mounts.{Location}
use Rattle.vt_spec.specs.Machine.World.{Overlay}
use Rattle.vt_spec.specs.Rights.{Credentials}
use Rattle.vt_spec.specs.Tree.{Node}

-- what a call that no rule refuses may do: each permit names all that it acts on
pub data Permit (N : Type 0) : Type 0 where
  -- no effect, and the answer `ok`: execve(2), and rename(2) of two names of one object
  Allowed : Permit N
  -- the names of a directory: getdents(2)
  ToList : (directory : Location N) → Permit N
  -- kind, owner, mode and size of an object: stat(2), lstat(2)
  ToStat : (object : Location N) → Permit N
  -- the bytes of a file, or the text of a symlink: read(2), readlink(2)
  ToRead : (file : Location N) → Permit N
  -- bytes from an offset on, at most so many: pread(2)
  ToReadPart : (file : Location N) → (offset : ℕ) → (size : ℕ) → Permit N
  -- a change of names, bytes or attributes in the filesystem of a location: link(2), unlink(2), write(2), chmod(2),
  -- chown(2) and setxattr(2) of the opaque mark
  ToChange : (location : Location N) → (change : Change N) → Permit N
  -- a new inode under a name of a directory: mkdir(2), symlink(2), mknod(2), and open(2) with O_CREAT before write(2)
  ToMake : (directory : Location N) → (name : List ℕ) → (node : Node N) → Permit N
  -- a directory loses its name, and the mounts on it end: rmdir(2)
  ToRemoveDirectory : (parent : Location N) → (name : List ℕ) → (directory : Location N) → Permit N
  -- an object gets another name. What had that name loses it, and the mounts on it end: rename(2)
  ToRename : (from : Location N) → (old : List ℕ) → (to : Location N) → (new : List ℕ) → (object : Location N)
      → (replaced : Option (Location N)) → Permit N
  -- a descriptor for a file: open(2)
  ToOpen : (file : Location N) → (access : Access) → Permit N
  -- a new file under a name of a directory, and a descriptor for it: open(2) with O_CREAT
  ToOpenNew : (directory : Location N) → (name : List ℕ) → (node : Node N) → (access : Access) → Permit N
  -- bytes at an offset of a file; no bytes change nothing: pwrite(2)
  ToWritePart : (file : Location N) → (offset : ℕ) → (bytes : List ℕ) → Permit N
  -- a descriptor ends: close(2)
  ToClose : (descriptor : ℕ) → Permit N
  -- another working directory, root directory, umask or credentials: chdir(2), chroot(2), umask(2), capset(2)
  ToSetDirectory : (directory : Location N) → Permit N
  ToSetRoot : (root : Location N) → Permit N
  ToSetUmask : (umask : ℕ) → Permit N
  ToSetCredentials : (credentials : Credentials) → Permit N
  -- a child with these credentials: fork(2)
  ToFork : (credentials : Credentials) → Permit N
  -- the task ends, and its namespace with its last task: _exit(2)
  ToExit : Permit N
  -- a namespace of its own, with copies of all mounts: unshare(2) with CLONE_NEWNS
  ToUnshare : Permit N
  -- the caller enters a namespace, at its root: setns(2)
  ToEnterNamespace : (namespace : N) → Permit N
  -- a mount of a new, empty filesystem: mount(2) of a tmpfs
  ToMountPlain : (destination : Location N) → (flags : MountFlags) → Permit N
  -- a mount of a new overlay with these layers: mount(2) of an overlay
  ToMountOverlay : (destination : Location N) → (overlay : Overlay N) → (flags : MountFlags) → Permit N
  -- a copy of the mount of a source, from that directory on, or of the mounts under it too: mount(2) with MS_BIND, and
  -- MS_REC
  ToBind : (source : Location N) → (destination : Location N) → (recursive : Bool) → Permit N
  -- a mount moves to another mount point, with its descendants: mount(2) with MS_MOVE
  ToMove : (mount : N) → (destination : Location N) → Permit N
  -- an unmount event: umount(2)
  ToUnmount : (mount : N) → Permit N
  -- an unmount event for a mount and each of its descendants: umount(2) with MNT_DETACH
  ToUnmountLazily : (mount : N) → Permit N
  -- other flags of a mount: mount(2) with MS_REMOUNT and MS_BIND
  ToSetFlags : (mount : N) → (flags : MountFlags) → Permit N
  -- another propagation type of a mount, or of its descendants too: mount(2) with MS_SHARED, MS_SLAVE,
  -- MS_PRIVATE or MS_UNBINDABLE, and MS_REC
  ToSetType : (mount : N) → (word : TypeWord) → (recursive : Bool) → Permit N
  -- a mount becomes the root mount, and the old root mount gets a mount point under it: pivot_root(2)
  ToPivot : (new : N) → (put : Location N) → Permit N
  -- the mounts of the caller's namespace: mountinfo of proc(5)
  ToListMounts : Permit N
