-- Every call and every script keeps the invariants of a world, with overlays too.
use Rattle.std.specs.Prelude.{Bool, List, nat_eq, true, ℕ, ◌≡◌}
use Rattle.vt_spec.specs.Language.Calls.{Call, TaskName}
use Rattle.vt_spec.specs.Language.Script.{Grammar}
use Rattle.vt_spec.specs.Lists.{Fresh}
use Rattle.vt_spec.specs.Machine.Invariants.{IsWorld, OverlayInvariants}
use Rattle.vt_spec.specs.Machine.Policy.{policy}
use Rattle.vt_spec.specs.Machine.Run.{Serves}
use Rattle.vt_spec.specs.Machine.Settled.{settled}
use Rattle.vt_spec.specs.Machine.World.{World, opening}
use Rattle.vt_laws_trees.specs.Trees.Limits.{names_few_groups}
use Rattle.vt_laws_worlds.specs.Worlds.Calls.{LeadsTo}
use Rattle.vt_laws_worlds.specs.Worlds.Kept.{IsUnderWay}

-- Where all invariants hold but that nothing unused is left, they hold, that one too, when what nothing uses is gone.
abbrev pub SettlingLeavesEveryWorld : Type 0
SettlingLeavesEveryWorld = (world : World ℕ) → IsUnderWay world → OverlayInvariants nat_eq world
    → IsWorld nat_eq (settled nat_eq world)

-- Every call, granted or refused, leaves a world that has all invariants. A fork names at most 32 groups, as its line
-- does.
abbrev pub EveryCallKeepsWorlds : Type 0
EveryCallKeepsWorlds =
    (world : World ℕ) (fresh : Fresh ℕ) (name : TaskName) (call : Call) → IsWorld nat_eq world
    → Serves nat_eq world fresh
    → names_few_groups call ≡ true → IsWorld nat_eq (policy nat_eq fresh world name call).world

-- So has every world that a script leads to.
abbrev pub EveryScriptLeadsToWorlds : Type 0
EveryScriptLeadsToWorlds =
    (grammar : Grammar) (lines : List (List ℕ)) (refused : List Bool) (fresh : Fresh ℕ) (left : World ℕ)
    → ((j k : ℕ) → fresh j ≡ fresh k → j ≡ k) → LeadsTo grammar (opening nat_eq fresh) lines refused left
    → IsWorld nat_eq left
