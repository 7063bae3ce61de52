-- Calls of tasks of a sealed set that make, give and take names through overlays, in the world and in the part of the
-- set (profile).
use Rattle.std.specs.Prelude.{Bool, List, Ok, Option, Some, nat_eq, true, ℕ, ◌≡◌}
use Rattle.vt_spec.specs.Language.Calls.{Access, Call, Creation, TaskName}
use Rattle.vt_spec.specs.Language.Calls.Call.{LinkTo, MakeWhiteout, Mkdir, Opaque, OpenFile, Rename, Rmdir, SymlinkAt, Unlink, Write}
use Rattle.vt_spec.specs.Lists.{Fresh}
use Rattle.vt_spec.specs.Machine.Judge.{judge_in}
use Rattle.vt_spec.specs.Machine.Mounts.{Location}
use Rattle.vt_spec.specs.Machine.Permits.Permit.{ToMake, ToOpenNew, ToRemoveDirectory, ToRename}
use Rattle.vt_spec.specs.Machine.Run.{Serves}
use Rattle.vt_spec.specs.Machine.World.{Task, World, filesystem_at, is_overlay, task_called}
use Rattle.vt_spec.specs.Tree.{Node}
use Rattle.vt_laws_members.specs.Changes.Changes.{EndsAlike, IsCallOfTheirs}
use Rattle.vt_laws_members.specs.Changes.NameChanges.{EndsAlikeByOne}
use Rattle.vt_laws_members.specs.Changes.OverlayEdits.{OverlayChangeEndsAlike}

-- Each call that sets the opaque mark does in the part what it does in the world, and through an overlay it is refused
-- (O4),
abbrev pub AllOpaquesEndAlike : Type 0
AllOpaquesEndAlike =
    (world : World ℕ) (names : List TaskName) (name : TaskName) (path : List ℕ) (mark : Bool)
    → IsCallOfTheirs world names name (Opaque path mark) → (fresh other : Fresh ℕ)
    → EndsAlike world names name (Opaque path mark) fresh other

-- and so does each call that makes a whiteout, by one supply of unused numbers.
abbrev pub AllWhiteoutsEndAlike : Type 0
AllWhiteoutsEndAlike =
    (world : World ℕ) (names : List TaskName) (name : TaskName) (path : List ℕ)
    → IsCallOfTheirs world names name (MakeWhiteout path) → (fresh : Fresh ℕ) → Serves nat_eq world fresh
    → EndsAlikeByOne world names name (MakeWhiteout path) fresh

-- a granted call that makes an inode in a directory of an overlay ends alike, by one supply of unused numbers
abbrev pub OverlayMakingEndsAlike : World ℕ → List TaskName → TaskName → Call → Type 0
OverlayMakingEndsAlike world names name call =
    IsCallOfTheirs world names name call → (task : Task ℕ) → task_called world name ≡ Some task
    → (fresh : Fresh ℕ) → Serves nat_eq world fresh → (directory : Location ℕ) (entry : List ℕ) (node : Node ℕ)
    → judge_in nat_eq fresh world task call ≡ Ok (ToMake directory entry node)
    → is_overlay (filesystem_at nat_eq world directory) ≡ true → EndsAlikeByOne world names name call fresh

-- So does mkdir(2),
abbrev pub OverlayMkdirsEndAlike : Type 0
OverlayMkdirsEndAlike =
    (world : World ℕ) (names : List TaskName) (name : TaskName) (path : List ℕ) (mode : Option ℕ)
    → OverlayMakingEndsAlike world names name (Mkdir path mode)

-- symlink(2),
abbrev pub OverlaySymlinksEndAlike : Type 0
OverlaySymlinksEndAlike =
    (world : World ℕ) (names : List TaskName) (name : TaskName) (text path : List ℕ)
    → OverlayMakingEndsAlike world names name (SymlinkAt text path)

-- and a write that makes the file.
abbrev pub OverlayNewFilesEndAlike : Type 0
OverlayNewFilesEndAlike =
    (world : World ℕ) (names : List TaskName) (name : TaskName) (path bytes : List ℕ)
    → OverlayMakingEndsAlike world names name (Write path bytes)

-- So does an open that makes the file.
abbrev pub OverlayNewOpensEndAlike : Type 0
OverlayNewOpensEndAlike =
    (world : World ℕ) (names : List TaskName) (name : TaskName) (path : List ℕ) (access : Access) (how : Creation)
    → IsCallOfTheirs world names name (OpenFile path access how) → (task : Task ℕ) → task_called world name ≡ Some task
    → (fresh : Fresh ℕ) → Serves nat_eq world fresh
    → (directory : Location ℕ) (entry : List ℕ) (node : Node ℕ) (wanted : Access)
    → judge_in nat_eq fresh world task (OpenFile path access how) ≡ Ok (ToOpenNew directory entry node wanted)
    → is_overlay (filesystem_at nat_eq world directory) ≡ true
    → EndsAlikeByOne world names name (OpenFile path access how) fresh

-- So does link(2), which copies up the object and the directory,
abbrev pub OverlayLinksEndAlike : Type 0
OverlayLinksEndAlike =
    (world : World ℕ) (names : List TaskName) (name : TaskName) (old new : List ℕ)
    → OverlayChangeEndsAlike world names name (LinkTo old new)

-- and unlink(2), which leaves a whiteout where lower layers show something.
abbrev pub OverlayUnlinksEndAlike : Type 0
OverlayUnlinksEndAlike =
    (world : World ℕ) (names : List TaskName) (name : TaskName) (path : List ℕ)
    → OverlayChangeEndsAlike world names name (Unlink path)

-- So does rmdir(2), whatever mounts stand on the directory,
abbrev pub OverlayRmdirsEndAlike : Type 0
OverlayRmdirsEndAlike =
    (world : World ℕ) (names : List TaskName) (name : TaskName) (path : List ℕ)
    → IsCallOfTheirs world names name (Rmdir path) → (task : Task ℕ) → task_called world name ≡ Some task
    → (fresh : Fresh ℕ) → Serves nat_eq world fresh
    → (parent : Location ℕ) (entry : List ℕ) (directory : Location ℕ)
    → judge_in nat_eq fresh world task (Rmdir path) ≡ Ok (ToRemoveDirectory parent entry directory)
    → is_overlay (filesystem_at nat_eq world parent) ≡ true → EndsAlikeByOne world names name (Rmdir path) fresh

-- and rename(2), whatever mounts stand on what it replaces.
abbrev pub OverlayRenamesEndAlike : Type 0
OverlayRenamesEndAlike =
    (world : World ℕ) (names : List TaskName) (name : TaskName) (old new : List ℕ)
    → IsCallOfTheirs world names name (Rename old new) → (task : Task ℕ) → task_called world name ≡ Some task
    → (fresh : Fresh ℕ) → Serves nat_eq world fresh → (from : Location ℕ) (entry : List ℕ) (to : Location ℕ)
    (entry_new : List ℕ) (object : Location ℕ) (replaced : Option (Location ℕ))
    → judge_in nat_eq fresh world task (Rename old new) ≡ Ok (ToRename from entry to entry_new object replaced)
    → is_overlay (filesystem_at nat_eq world from) ≡ true → EndsAlikeByOne world names name (Rename old new) fresh
