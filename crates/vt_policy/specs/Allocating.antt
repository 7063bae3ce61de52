-- Which calls allocate as they are judged, before anything is changed.
use Rattle.std.specs.Prelude.{⊤}
use Rattle.vt_spec.specs.Language.Calls.{Call}
use Rattle.vt_spec.specs.Language.Calls.Call.{Bind, Fork, LinkTo, MakeWhiteout, Mkdir, MountOverlay, MountPlain, MoveMount, OpenFile, Rename, Rmdir, SymlinkAt, Umount, Unlink, Write}

-- Those whose permit has a copy of a name or of credentials: open(2) of what it may make, mkdir(2), symlink(2),
-- mknod(2), link(2), unlink(2), rmdir(2), rename(2), fork(2). And those whose receivers are gathered: mount(2) where it
-- attaches mounts, also with a list of the layers of an overlay, umount(2).
abbrev pub IsJudgedWithMemory : Call → Type 0
IsJudgedWithMemory (Write path bytes) = ⊤
IsJudgedWithMemory (Mkdir path mode) = ⊤
IsJudgedWithMemory (SymlinkAt text path) = ⊤
IsJudgedWithMemory (MakeWhiteout path) = ⊤
IsJudgedWithMemory (LinkTo old new) = ⊤
IsJudgedWithMemory (Unlink path) = ⊤
IsJudgedWithMemory (Rmdir path) = ⊤
IsJudgedWithMemory (Rename old new) = ⊤
IsJudgedWithMemory (OpenFile path access how) = ⊤
IsJudgedWithMemory (Fork words) = ⊤
IsJudgedWithMemory (MountPlain path flags) = ⊤
IsJudgedWithMemory (MountOverlay path options flags) = ⊤
IsJudgedWithMemory (Bind source path recursive) = ⊤
IsJudgedWithMemory (MoveMount source path) = ⊤
IsJudgedWithMemory (Umount path) = ⊤
IsJudgedWithMemory call = ⊥
