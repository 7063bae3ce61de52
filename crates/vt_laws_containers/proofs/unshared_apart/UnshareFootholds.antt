-- Calls of unshare(2) of tasks of a sealed set, and the footholds of others that they leave (profile).
use Rattle.std.specs.Prelude.{List, nat_eq, ℕ}
use Rattle.vt_spec.specs.Language.Calls.{TaskName}
use Rattle.vt_spec.specs.Language.Calls.Call.{Unshare}
use Rattle.vt_spec.specs.Lists.{Fresh}
use Rattle.vt_spec.specs.Machine.Run.{Serves}
use Rattle.vt_spec.specs.Machine.World.{World}
use Rattle.vt_laws_members.specs.Changes.Changes.{IsCallOfTheirs}
use Rattle.vt_laws_containers.specs.Footholds.{GivesNoFoothold}

-- Each call of unshare(2) with CLONE_NEWNS gives others no foothold.
abbrev pub UnsharesGiveNoFoothold : Type 0
UnsharesGiveNoFoothold =
    (world : World ℕ) (names : List TaskName) (name : TaskName) → IsCallOfTheirs world names name Unshare
    → (fresh : Fresh ℕ) → Serves nat_eq world fresh → GivesNoFoothold world names name Unshare fresh
