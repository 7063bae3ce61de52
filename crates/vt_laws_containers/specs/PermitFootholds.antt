-- Which calls give others no foothold by any numbers (profile).
use Rattle.std.specs.Prelude.{List, false, is_ok, nat_eq, true, ℕ, ◌≡◌}
use Rattle.vt_spec.specs.Language.Calls.{Call, TaskName}
use Rattle.vt_spec.specs.Lists.{Fresh}
use Rattle.vt_spec.specs.Machine.Policy.{only_looks, policy}
use Rattle.vt_spec.specs.Machine.World.{World}
use Rattle.vt_laws_members.specs.Changes.Changes.{IsCallOfTheirs}
use Rattle.vt_laws_containers.specs.Footholds.{GivesNoFoothold}

-- A call of theirs that only looks gives others no foothold,
abbrev pub LooksGiveNoFoothold : Type 0
LooksGiveNoFoothold =
    (world : World ℕ) (names : List TaskName) (name : TaskName) (call : Call) → IsCallOfTheirs world names name call
    → (fresh : Fresh ℕ) → only_looks call ≡ true → GivesNoFoothold world names name call fresh

-- and so does one that is refused.
abbrev pub DenialsGiveNoFoothold : Type 0
DenialsGiveNoFoothold =
    (world : World ℕ) (names : List TaskName) (name : TaskName) (call : Call) → IsCallOfTheirs world names name call
    → (fresh : Fresh ℕ) → is_ok (policy nat_eq fresh world name call).answer ≡ false
    → GivesNoFoothold world names name call fresh
