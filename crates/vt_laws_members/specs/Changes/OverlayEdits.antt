-- Calls of tasks of a sealed set that edit a file through an overlay, in the world and in the part of the set (profile).
use Rattle.std.specs.Prelude.{List, Ok, Option, Some, nat_eq, true, ℕ, ◌≡◌, ◌∷◌}
use Rattle.vt_spec.specs.Language.Calls.{Access, Call, Creation, TaskName}
use Rattle.vt_spec.specs.Language.Calls.Call.{Chmod, Chown, OpenFile, Pwrite, Write}
use Rattle.vt_spec.specs.Language.Changes.{Change}
use Rattle.vt_spec.specs.Lists.{Fresh}
use Rattle.vt_spec.specs.Machine.Descriptors.{is_copied_up}
use Rattle.vt_spec.specs.Machine.Judge.{judge_in}
use Rattle.vt_spec.specs.Machine.Mounts.{Location}
use Rattle.vt_spec.specs.Machine.Permits.Permit.{ToChange, ToOpen, ToWritePart}
use Rattle.vt_spec.specs.Machine.Run.{Serves}
use Rattle.vt_spec.specs.Machine.World.{Task, World, filesystem_at, is_overlay, task_called}
use Rattle.vt_laws_members.specs.Changes.Changes.{IsCallOfTheirs}
use Rattle.vt_laws_members.specs.Changes.NameChanges.{EndsAlikeByOne}

-- A granted call that changes an overlay at a location copies up what lies only in lower layers, and copies take their
-- numbers from the supply: so it ends alike by one supply of unused numbers.
abbrev pub OverlayChangeEndsAlike : World ℕ → List TaskName → TaskName → Call → Type 0
OverlayChangeEndsAlike world names name call =
    IsCallOfTheirs world names name call → (task : Task ℕ) → task_called world name ≡ Some task
    → (fresh : Fresh ℕ) → Serves nat_eq world fresh → (location : Location ℕ) (change : Change ℕ)
    → judge_in nat_eq fresh world task call ≡ Ok (ToChange location change)
    → is_overlay (filesystem_at nat_eq world location) ≡ true → EndsAlikeByOne world names name call fresh

-- Through an overlay a write to a file that is there does,
abbrev pub OverlayWritesEndAlike : Type 0
OverlayWritesEndAlike =
    (world : World ℕ) (names : List TaskName) (name : TaskName) (path bytes : List ℕ)
    → OverlayChangeEndsAlike world names name (Write path bytes)

-- and so do chmod(2),
abbrev pub OverlayChmodsEndAlike : Type 0
OverlayChmodsEndAlike =
    (world : World ℕ) (names : List TaskName) (name : TaskName) (path : List ℕ) (mode : ℕ)
    → OverlayChangeEndsAlike world names name (Chmod path mode)

-- chown(2),
abbrev pub OverlayChownsEndAlike : Type 0
OverlayChownsEndAlike =
    (world : World ℕ) (names : List TaskName) (name : TaskName) (path : List ℕ) (uid gid : Option ℕ)
    → OverlayChangeEndsAlike world names name (Chown path uid gid)

-- and a write of bytes at an offset of an open file.
abbrev pub OverlayPartWritesEndAlike : Type 0
OverlayPartWritesEndAlike =
    (world : World ℕ) (names : List TaskName) (name : TaskName) (descriptor offset byte : ℕ) (bytes : List ℕ)
    → IsCallOfTheirs world names name (Pwrite descriptor offset (byte ∷ bytes)) → (task : Task ℕ)
    → task_called world name ≡ Some task → (fresh : Fresh ℕ) → Serves nat_eq world fresh
    → (file : Location ℕ) (at : ℕ) (written : List ℕ)
    → judge_in nat_eq fresh world task (Pwrite descriptor offset (byte ∷ bytes)) ≡ Ok (ToWritePart file at written)
    → is_overlay (filesystem_at nat_eq world file) ≡ true
    → EndsAlikeByOne world names name (Pwrite descriptor offset (byte ∷ bytes)) fresh

-- So does an open of a file that is copied up.
abbrev pub OverlayOpensEndAlike : Type 0
OverlayOpensEndAlike =
    (world : World ℕ) (names : List TaskName) (name : TaskName) (path : List ℕ) (access : Access) (how : Creation)
    → IsCallOfTheirs world names name (OpenFile path access how) → (task : Task ℕ) → task_called world name ≡ Some task
    → (fresh : Fresh ℕ) → Serves nat_eq world fresh → (file : Location ℕ) (wanted : Access)
    → judge_in nat_eq fresh world task (OpenFile path access how) ≡ Ok (ToOpen file wanted)
    → is_copied_up nat_eq world file wanted ≡ true
    → EndsAlikeByOne world names name (OpenFile path access how) fresh
