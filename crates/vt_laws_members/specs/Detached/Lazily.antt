-- Calls of tasks of a sealed set that detach a mount with all that stands on it, in the world and in the part of the set
-- (profile).
use Rattle.std.specs.Prelude.{List, ℕ}
use Rattle.vt_spec.specs.Language.Calls.{TaskName}
use Rattle.vt_spec.specs.Language.Calls.Call.{Lazy}
use Rattle.vt_spec.specs.Lists.{Fresh}
use Rattle.vt_spec.specs.Machine.World.{World}
use Rattle.vt_laws_members.specs.Changes.Changes.{EndsAlike, IsCallOfTheirs}

-- Each call of umount(2) with MNT_DETACH does in the part what it does in the world.
abbrev pub LazyUmountsDetachAlike : Type 0
LazyUmountsDetachAlike =
    (world : World ℕ) (names : List TaskName) (name : TaskName) (path : List ℕ)
    → IsCallOfTheirs world names name (Lazy path) → (fresh other : Fresh ℕ)
    → EndsAlike world names name (Lazy path) fresh other
