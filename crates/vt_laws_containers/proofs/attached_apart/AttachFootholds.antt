-- Calls of tasks of a sealed set that attach mounts, and the footholds of others that they leave (profile).
use Rattle.std.specs.Prelude.{Bool, List, Option, nat_eq, ℕ}
use Rattle.vt_spec.specs.Language.Calls.{MountFlags, OverlayWords, TaskName}
use Rattle.vt_spec.specs.Language.Calls.Call.{Bind, MountOverlay, MountPlain, MoveMount}
use Rattle.vt_spec.specs.Lists.{Fresh}
use Rattle.vt_spec.specs.Machine.Run.{Serves}
use Rattle.vt_spec.specs.Machine.World.{World}
use Rattle.vt_laws_members.specs.Changes.Changes.{IsCallOfTheirs}
use Rattle.vt_laws_containers.specs.Footholds.{GivesNoFoothold}

-- Each call of mount(2) of a new plain filesystem gives others no foothold.
abbrev pub PlainMountsGiveNoFoothold : Type 0
PlainMountsGiveNoFoothold =
    (world : World ℕ) (names : List TaskName) (name : TaskName) (path : List ℕ) (flags : MountFlags)
    → IsCallOfTheirs world names name (MountPlain path flags) → (fresh : Fresh ℕ) → Serves nat_eq world fresh
    → GivesNoFoothold world names name (MountPlain path flags) fresh

-- Nor does a call of mount(2) with MS_BIND, recursive or not,
abbrev pub BindsGiveNoFoothold : Type 0
BindsGiveNoFoothold =
    (world : World ℕ) (names : List TaskName) (name : TaskName) (source path : List ℕ) (recursive : Bool)
    → IsCallOfTheirs world names name (Bind source path recursive) → (fresh : Fresh ℕ) → Serves nat_eq world fresh
    → GivesNoFoothold world names name (Bind source path recursive) fresh

-- nor one with MS_MOVE,
abbrev pub MovesGiveNoFoothold : Type 0
MovesGiveNoFoothold =
    (world : World ℕ) (names : List TaskName) (name : TaskName) (source path : List ℕ)
    → IsCallOfTheirs world names name (MoveMount source path) → (fresh : Fresh ℕ) → Serves nat_eq world fresh
    → GivesNoFoothold world names name (MoveMount source path) fresh

-- nor one of a new overlay.
abbrev pub OverlayMountsGiveNoFoothold : Type 0
OverlayMountsGiveNoFoothold =
    (world : World ℕ) (names : List TaskName) (name : TaskName) (path : List ℕ) (options : Option OverlayWords)
    (flags : MountFlags)
    → IsCallOfTheirs world names name (MountOverlay path options flags) → (fresh : Fresh ℕ)
    → Serves nat_eq world fresh → GivesNoFoothold world names name (MountOverlay path options flags) fresh
