-- Which call it is, without its words.
use Rattle.vt_spec.specs.Language.Calls as spec
use Rattle.vt_request.specs.declared.kind.CallKind.{CallKind}
use Rattle.vt_request.specs.declared.kind.CallKind.TheVariants as kind

-- the kind of a call
abbrev pub kind_of : spec.Call → CallKind
kind_of (spec.Call.Ls path) = kind.Ls
kind_of (spec.Call.Stat path) = kind.Stat
kind_of (spec.Call.Lstat path) = kind.Lstat
kind_of (spec.Call.Readlink path) = kind.Readlink
kind_of (spec.Call.Read path) = kind.Read
kind_of (spec.Call.Exec path) = kind.Exec
kind_of (spec.Call.Pread descriptor offset size) = kind.Pread
kind_of spec.Call.ListMounts = kind.ListMounts
kind_of (spec.Call.Mkdir path mode) = kind.Mkdir
kind_of (spec.Call.SymlinkAt text path) = kind.Symlink
kind_of (spec.Call.MakeWhiteout path) = kind.Whiteout
kind_of (spec.Call.LinkTo old new) = kind.Link
kind_of (spec.Call.Unlink path) = kind.Unlink
kind_of (spec.Call.Rmdir path) = kind.Rmdir
kind_of (spec.Call.Rename old new) = kind.Rename
kind_of (spec.Call.Write path bytes) = kind.Write
kind_of (spec.Call.Pwrite descriptor offset bytes) = kind.Pwrite
kind_of (spec.Call.Chmod path mode) = kind.Chmod
kind_of (spec.Call.Chown path uid gid) = kind.Chown
kind_of (spec.Call.Opaque path mark) = kind.Opaque
kind_of (spec.Call.OpenFile path access how) = kind.Open
kind_of (spec.Call.Close descriptor) = kind.Close
kind_of (spec.Call.Chdir path) = kind.Chdir
kind_of (spec.Call.Chroot path) = kind.Chroot
kind_of (spec.Call.Umask mode) = kind.Umask
kind_of (spec.Call.Drop which) = kind.Drop
kind_of (spec.Call.Fork words) = kind.Fork
kind_of spec.Call.Exit = kind.Exit
kind_of spec.Call.Unshare = kind.Unshare
kind_of (spec.Call.Setns name) = kind.Setns
kind_of (spec.Call.MountPlain path flags) = kind.MountPlain
kind_of (spec.Call.MountOverlay path options flags) = kind.MountOverlay
kind_of (spec.Call.Bind source path recursive) = kind.Bind
kind_of (spec.Call.MoveMount source path) = kind.MoveMount
kind_of (spec.Call.Umount path) = kind.Umount
kind_of (spec.Call.Lazy path) = kind.Lazy
kind_of (spec.Call.Remount path flags) = kind.Remount
kind_of (spec.Call.SetType path word recursive) = kind.SetType
kind_of (spec.Call.PivotRoot new put) = kind.PivotRoot
