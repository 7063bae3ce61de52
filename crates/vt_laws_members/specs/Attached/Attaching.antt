-- Calls of tasks of a sealed set that attach mounts, in the world and in the part of the set (profile).
use Rattle.std.specs.Prelude.{Bool, List, nat_eq, ℕ}
use Rattle.vt_spec.specs.Language.Calls.{MountFlags, TaskName}
use Rattle.vt_spec.specs.Language.Calls.Call.{Bind, MountPlain, MoveMount}
use Rattle.vt_spec.specs.Lists.{Fresh}
use Rattle.vt_spec.specs.Machine.Run.{Serves}
use Rattle.vt_spec.specs.Machine.World.{World}
use Rattle.vt_laws_members.specs.Changes.Changes.{IsCallOfTheirs}
use Rattle.vt_laws_members.specs.Changes.NameChanges.{EndsAlikeByOne}

-- Each call of mount(2) of a new plain filesystem does in the part what it does in the world, by one supply.
abbrev pub PlainMountsEndAlike : Type 0
PlainMountsEndAlike =
    (world : World ℕ) (names : List TaskName) (name : TaskName) (path : List ℕ) (flags : MountFlags)
    → IsCallOfTheirs world names name (MountPlain path flags) → (fresh : Fresh ℕ) → Serves nat_eq world fresh
    → EndsAlikeByOne world names name (MountPlain path flags) fresh

-- So does each call of mount(2) with MS_BIND, recursive or not.
abbrev pub BindsEndAlike : Type 0
BindsEndAlike =
    (world : World ℕ) (names : List TaskName) (name : TaskName) (source path : List ℕ) (recursive : Bool)
    → IsCallOfTheirs world names name (Bind source path recursive) → (fresh : Fresh ℕ) → Serves nat_eq world fresh
    → EndsAlikeByOne world names name (Bind source path recursive) fresh

-- So does each call of mount(2) with MS_MOVE.
abbrev pub MovesEndAlike : Type 0
MovesEndAlike =
    (world : World ℕ) (names : List TaskName) (name : TaskName) (source path : List ℕ)
    → IsCallOfTheirs world names name (MoveMount source path) → (fresh : Fresh ℕ) → Serves nat_eq world fresh
    → EndsAlikeByOne world names name (MoveMount source path) fresh
