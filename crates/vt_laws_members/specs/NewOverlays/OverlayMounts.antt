-- Calls of tasks of a sealed set that mount overlays, in the world and in the part of the set (profile).
use Rattle.std.specs.Prelude.{List, Option, nat_eq, ℕ}
use Rattle.vt_spec.specs.Language.Calls.{MountFlags, OverlayWords, TaskName}
use Rattle.vt_spec.specs.Language.Calls.Call.{MountOverlay}
use Rattle.vt_spec.specs.Lists.{Fresh}
use Rattle.vt_spec.specs.Machine.Run.{Serves}
use Rattle.vt_spec.specs.Machine.World.{World}
use Rattle.vt_laws_members.specs.Changes.Changes.{IsCallOfTheirs}
use Rattle.vt_laws_members.specs.Changes.NameChanges.{EndsAlikeByOne}

-- Each call of mount(2) of a new overlay does in the part what it does in the world, by one supply of unused numbers.
abbrev pub OverlayMountsEndAlike : Type 0
OverlayMountsEndAlike =
    (world : World ℕ) (names : List TaskName) (name : TaskName) (path : List ℕ) (options : Option OverlayWords)
    (flags : MountFlags)
    → IsCallOfTheirs world names name (MountOverlay path options flags) → (fresh : Fresh ℕ)
    → Serves nat_eq world fresh → EndsAlikeByOne world names name (MountOverlay path options flags) fresh
