-- Calls of tasks of a sealed set that change propagation types, and the footholds of others that they leave (profile).
use Rattle.std.specs.Prelude.{Bool, List, nat_eq, ℕ}
use Rattle.vt_spec.specs.Language.Calls.{TaskName, TypeWord}
use Rattle.vt_spec.specs.Language.Calls.Call.{SetType}
use Rattle.vt_spec.specs.Lists.{Fresh}
use Rattle.vt_spec.specs.Machine.Run.{Serves}
use Rattle.vt_spec.specs.Machine.World.{World}
use Rattle.vt_laws_members.specs.Changes.Changes.{IsCallOfTheirs}
use Rattle.vt_laws_containers.specs.Footholds.{GivesNoFoothold}

-- Each call of mount(2) with MS_SHARED, MS_SLAVE, MS_PRIVATE or MS_UNBINDABLE, also with MS_REC, gives others no
-- foothold.
abbrev pub TypesGiveNoFoothold : Type 0
TypesGiveNoFoothold =
    (world : World ℕ) (names : List TaskName) (name : TaskName) (path : List ℕ) (word : TypeWord) (recursive : Bool)
    → IsCallOfTheirs world names name (SetType path word recursive)
    → (fresh : Fresh ℕ) → Serves nat_eq world fresh
    → GivesNoFoothold world names name (SetType path word recursive) fresh
