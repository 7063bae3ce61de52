-- Calls of tasks of a sealed set that change mounts, in the world and in the part of the set (profile).
use Rattle.std.specs.Prelude.{List, ℕ}
use Rattle.vt_spec.specs.Language.Calls.{MountFlags, TaskName}
use Rattle.vt_spec.specs.Language.Calls.Call.{Remount}
use Rattle.vt_spec.specs.Lists.{Fresh}
use Rattle.vt_spec.specs.Machine.World.{World}
use Rattle.vt_laws_members.specs.Changes.Changes.{EndsAlike, IsCallOfTheirs}

-- Each call of mount(2) with MS_REMOUNT and MS_BIND does in the part what it does in the world.
abbrev pub RemountsEndAlike : Type 0
RemountsEndAlike =
    (world : World ℕ) (names : List TaskName) (name : TaskName) (path : List ℕ) (flags : MountFlags)
    → IsCallOfTheirs world names name (Remount path flags) → (fresh other : Fresh ℕ)
    → EndsAlike world names name (Remount path flags) fresh other
