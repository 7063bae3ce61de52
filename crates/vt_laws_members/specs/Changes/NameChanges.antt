-- Calls of tasks of a sealed set that make, give and take names on plain filesystems, in the world and in the part of
-- the set (profile).
use Rattle.std.specs.Prelude.{List, Ok, Option, Some, false, nat_eq, ℕ, ◌≡◌}
use Rattle.vt_spec.specs.Language.Calls.{Access, Call, Creation, TaskName}
use Rattle.vt_spec.specs.Language.Calls.Call.{LinkTo, MakeWhiteout, Mkdir, OpenFile, SymlinkAt, Unlink, Write}
use Rattle.vt_spec.specs.Lists.{Fresh}
use Rattle.vt_spec.specs.Machine.Judge.{judge_in}
use Rattle.vt_spec.specs.Machine.Mounts.{Location}
use Rattle.vt_spec.specs.Machine.Permits.Permit.{ToMake, ToOpenNew}
use Rattle.vt_spec.specs.Machine.Run.{Serves}
use Rattle.vt_spec.specs.Machine.World.{Task, World, filesystem_at, is_overlay, task_called}
use Rattle.vt_spec.specs.Tree.{Node}
use Rattle.vt_laws_members.specs.Changes.Changes.{EndsAlike, IsCallOfTheirs, PlainChangeEndsAlike}

-- A call that makes an inode takes its number from the supply: so it does in the world and in the part, by one supply.
abbrev pub EndsAlikeByOne : World ℕ → List TaskName → TaskName → Call → Fresh ℕ → Type 0
EndsAlikeByOne world names name call fresh = EndsAlike world names name call fresh fresh

-- a granted call that makes an inode in a directory of a plain filesystem ends alike, by one supply of unused numbers
abbrev pub PlainMakingEndsAlike : World ℕ → List TaskName → TaskName → Call → Type 0
PlainMakingEndsAlike world names name call =
    IsCallOfTheirs world names name call → (task : Task ℕ) → task_called world name ≡ Some task
    → (fresh : Fresh ℕ) → Serves nat_eq world fresh → (directory : Location ℕ) (entry : List ℕ) (node : Node ℕ)
    → judge_in nat_eq fresh world task call ≡ Ok (ToMake directory entry node)
    → is_overlay (filesystem_at nat_eq world directory) ≡ false → EndsAlikeByOne world names name call fresh

-- So does mkdir(2),
abbrev pub MkdirsEndAlike : Type 0
MkdirsEndAlike =
    (world : World ℕ) (names : List TaskName) (name : TaskName) (path : List ℕ) (mode : Option ℕ)
    → PlainMakingEndsAlike world names name (Mkdir path mode)

-- symlink(2),
abbrev pub SymlinksEndAlike : Type 0
SymlinksEndAlike =
    (world : World ℕ) (names : List TaskName) (name : TaskName) (text path : List ℕ)
    → PlainMakingEndsAlike world names name (SymlinkAt text path)

-- mknod(2) of a whiteout,
abbrev pub WhiteoutsEndAlike : Type 0
WhiteoutsEndAlike =
    (world : World ℕ) (names : List TaskName) (name : TaskName) (path : List ℕ)
    → PlainMakingEndsAlike world names name (MakeWhiteout path)

-- and a write that makes the file.
abbrev pub NewFilesEndAlike : Type 0
NewFilesEndAlike =
    (world : World ℕ) (names : List TaskName) (name : TaskName) (path bytes : List ℕ)
    → PlainMakingEndsAlike world names name (Write path bytes)

-- So does an open that makes the file.
abbrev pub NewOpensEndAlike : Type 0
NewOpensEndAlike =
    (world : World ℕ) (names : List TaskName) (name : TaskName) (path : List ℕ) (access : Access) (how : Creation)
    → IsCallOfTheirs world names name (OpenFile path access how) → (task : Task ℕ) → task_called world name ≡ Some task
    → (fresh : Fresh ℕ) → Serves nat_eq world fresh
    → (directory : Location ℕ) (entry : List ℕ) (node : Node ℕ) (wanted : Access)
    → judge_in nat_eq fresh world task (OpenFile path access how) ≡ Ok (ToOpenNew directory entry node wanted)
    → is_overlay (filesystem_at nat_eq world directory) ≡ false
    → EndsAlikeByOne world names name (OpenFile path access how) fresh

-- So does link(2), whatever numbers are handed in.
abbrev pub LinksEndAlike : Type 0
LinksEndAlike =
    (world : World ℕ) (names : List TaskName) (name : TaskName) (old new : List ℕ)
    → PlainChangeEndsAlike world names name (LinkTo old new)

-- So does unlink(2): of the filesystem, which they use alone, the inode goes in both if nothing uses it.
abbrev pub UnlinksEndAlike : Type 0
UnlinksEndAlike =
    (world : World ℕ) (names : List TaskName) (name : TaskName) (path : List ℕ)
    → PlainChangeEndsAlike world names name (Unlink path)
