-- Calls of tasks of a sealed set on files, granted or refused, on plain filesystems and through overlays (profile).
use Rattle.std.specs.Prelude.{List, Option, nat_eq, ℕ}
use Rattle.vt_spec.specs.Language.Calls.{Access, Call, Creation, TaskName}
use Rattle.vt_spec.specs.Language.Calls.Call.{Chmod, Chown, LinkTo, Mkdir, OpenFile, Pwrite, SymlinkAt, Unlink, Write}
use Rattle.vt_spec.specs.Lists.{Fresh}
use Rattle.vt_spec.specs.Machine.Run.{Serves}
use Rattle.vt_spec.specs.Machine.World.{World}
use Rattle.vt_laws_members.specs.Changes.Changes.{IsCallOfTheirs}
use Rattle.vt_laws_members.specs.Changes.NameChanges.{EndsAlikeByOne}

-- a call does in the part what it does in the world, by one supply of unused numbers
abbrev pub AlwaysEndsAlike : World ℕ → List TaskName → TaskName → Call → Type 0
AlwaysEndsAlike world names name call =
    IsCallOfTheirs world names name call → (fresh : Fresh ℕ) → Serves nat_eq world fresh
    → EndsAlikeByOne world names name call fresh

-- So does each write,
abbrev pub EachWriteEndsAlike : Type 0
EachWriteEndsAlike =
    (world : World ℕ) (names : List TaskName) (name : TaskName) (path bytes : List ℕ)
    → AlwaysEndsAlike world names name (Write path bytes)

-- each of mkdir(2),
abbrev pub EachMkdirEndsAlike : Type 0
EachMkdirEndsAlike =
    (world : World ℕ) (names : List TaskName) (name : TaskName) (path : List ℕ) (mode : Option ℕ)
    → AlwaysEndsAlike world names name (Mkdir path mode)

-- of symlink(2),
abbrev pub EachSymlinkEndsAlike : Type 0
EachSymlinkEndsAlike =
    (world : World ℕ) (names : List TaskName) (name : TaskName) (text path : List ℕ)
    → AlwaysEndsAlike world names name (SymlinkAt text path)

-- of link(2),
abbrev pub EachLinkEndsAlike : Type 0
EachLinkEndsAlike =
    (world : World ℕ) (names : List TaskName) (name : TaskName) (old new : List ℕ)
    → AlwaysEndsAlike world names name (LinkTo old new)

-- of unlink(2),
abbrev pub EachUnlinkEndsAlike : Type 0
EachUnlinkEndsAlike =
    (world : World ℕ) (names : List TaskName) (name : TaskName) (path : List ℕ)
    → AlwaysEndsAlike world names name (Unlink path)

-- of chmod(2),
abbrev pub EachChmodEndsAlike : Type 0
EachChmodEndsAlike =
    (world : World ℕ) (names : List TaskName) (name : TaskName) (path : List ℕ) (mode : ℕ)
    → AlwaysEndsAlike world names name (Chmod path mode)

-- of chown(2),
abbrev pub EachChownEndsAlike : Type 0
EachChownEndsAlike =
    (world : World ℕ) (names : List TaskName) (name : TaskName) (path : List ℕ) (uid gid : Option ℕ)
    → AlwaysEndsAlike world names name (Chown path uid gid)

-- of open(2),
abbrev pub EachOpenEndsAlike : Type 0
EachOpenEndsAlike =
    (world : World ℕ) (names : List TaskName) (name : TaskName) (path : List ℕ) (access : Access) (how : Creation)
    → AlwaysEndsAlike world names name (OpenFile path access how)

-- and of pwrite(2).
abbrev pub EachPartWriteEndsAlike : Type 0
EachPartWriteEndsAlike =
    (world : World ℕ) (names : List TaskName) (name : TaskName) (descriptor offset : ℕ) (bytes : List ℕ)
    → AlwaysEndsAlike world names name (Pwrite descriptor offset bytes)
