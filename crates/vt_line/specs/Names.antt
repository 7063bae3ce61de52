-- The calls by their names.
use Rattle.std.specs.Prelude.{List, [], codes, false, true, ℕ, ◌∷◌}
use Rattle.vt_spec.specs.Language.Calls as spec
use Rattle.vt_line.specs.declared.names.CallName.{CallName}
use Rattle.vt_line.specs.declared.names.CallName.TheVariants.{Chmod, Chown, Close, Drop, Exit, Fork, Mkdir, Mount, Mounts, Opaque, Open, Pair, Path, PivotRoot, Pread, Pwrite, Remount, Setns, SetType, SetTypeRecursive, Umask, Unshare, Write}
use Rattle.vt_line.specs.declared.names.PairCall.{PairCall}
use Rattle.vt_line.specs.declared.names.PairCall.TheVariants as pair
use Rattle.vt_line.specs.declared.names.PathCall.{PathCall}
use Rattle.vt_line.specs.declared.names.PathCall.TheVariants as path

abbrev pub path_text : PathCall → List ℕ
path_text path.Ls = codes "ls"
path_text path.Stat = codes "stat"
path_text path.Lstat = codes "lstat"
path_text path.Readlink = codes "readlink"
path_text path.Read = codes "read"
path_text path.Exec = codes "exec"
path_text path.Unlink = codes "unlink"
path_text path.Rmdir = codes "rmdir"
path_text path.Chdir = codes "chdir"
path_text path.Chroot = codes "chroot"
path_text path.Umount = codes "umount"
path_text path.Lazy = codes "lazy"
path_text path.Whiteout = codes "whiteout"

abbrev pub pair_text : PairCall → List ℕ
pair_text pair.Symlink = codes "symlink"
pair_text pair.Link = codes "link"
pair_text pair.Rename = codes "rename"
pair_text pair.Bind = codes "bind"
pair_text pair.Rbind = codes "rbind"
pair_text pair.Move = codes "move"

abbrev pub name_text : CallName → List ℕ
name_text (Path name) = path_text name
name_text (Pair name) = pair_text name
name_text Write = codes "write"
name_text Mkdir = codes "mkdir"
name_text Chmod = codes "chmod"
name_text Chown = codes "chown"
name_text Opaque = codes "opaque"
name_text Open = codes "open"
name_text Pread = codes "pread"
name_text Pwrite = codes "pwrite"
name_text Close = codes "close"
name_text Umask = codes "umask"
name_text Drop = codes "drop"
name_text Fork = codes "fork"
name_text Exit = codes "exit"
name_text Unshare = codes "unshare"
name_text Setns = codes "setns"
name_text Mount = codes "mount"
name_text Remount = codes "remount"
name_text SetType = codes "type"
name_text SetTypeRecursive = codes "rtype"
name_text Mounts = codes "mounts"
name_text PivotRoot = codes "pivot_root"

-- The names of the calls on files and tasks, in their order: those on names, and those on files and of a task on
-- itself.
abbrev pub name_call_names : List (List ℕ)
name_call_names =
    codes "ls" ∷ codes "stat" ∷ codes "lstat" ∷ codes "readlink" ∷ codes "read" ∷ codes "write" ∷ codes "exec"
    ∷ codes "mkdir" ∷ codes "symlink" ∷ codes "link" ∷ codes "unlink" ∷ codes "rmdir" ∷ codes "rename" ∷ []

abbrev pub handle_call_names : List (List ℕ)
handle_call_names =
    codes "chmod" ∷ codes "chown" ∷ codes "open" ∷ codes "pread" ∷ codes "pwrite" ∷ codes "close" ∷ codes "umask"
    ∷ codes "drop" ∷ codes "fork" ∷ codes "exit" ∷ []

-- a call with its path, or with its two words
abbrev pub path_call : PathCall → List ℕ → spec.Call
path_call path.Ls path = spec.Call.Ls path
path_call path.Stat path = spec.Call.Stat path
path_call path.Lstat path = spec.Call.Lstat path
path_call path.Readlink path = spec.Call.Readlink path
path_call path.Read path = spec.Call.Read path
path_call path.Exec path = spec.Call.Exec path
path_call path.Unlink path = spec.Call.Unlink path
path_call path.Rmdir path = spec.Call.Rmdir path
path_call path.Chdir path = spec.Call.Chdir path
path_call path.Chroot path = spec.Call.Chroot path
path_call path.Umount path = spec.Call.Umount path
path_call path.Lazy path = spec.Call.Lazy path
path_call path.Whiteout path = spec.Call.MakeWhiteout path

abbrev pub pair_call : PairCall → List ℕ → List ℕ → spec.Call
pair_call pair.Symlink text path = spec.Call.SymlinkAt text path
pair_call pair.Link old new = spec.Call.LinkTo old new
pair_call pair.Rename old new = spec.Call.Rename old new
pair_call pair.Bind source path = spec.Call.Bind source path false
pair_call pair.Rbind source path = spec.Call.Bind source path true
pair_call pair.Move source path = spec.Call.MoveMount source path
