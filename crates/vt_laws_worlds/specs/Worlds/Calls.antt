-- Every call and every script without overlays keeps the invariants of a world.
use Rattle.std.specs.Prelude.{Bool, List, None, Ok, Some, [], false, nat_eq, true, ℕ, ◌≡◌, ◌∷◌}
use Rattle.vt_spec.specs.Language.Calls.{Call, TaskName}
use Rattle.vt_spec.specs.Machine.Judge.{judge_in}
use Rattle.vt_spec.specs.Lists.{Fresh}
use Rattle.vt_spec.specs.Machine.Permits.{Permit}
use Rattle.vt_spec.specs.Machine.Policy.{policy}
use Rattle.vt_spec.specs.Machine.Run.{Serves, line_step, step_world}
use Rattle.vt_spec.specs.Language.Script.{Grammar}
use Rattle.vt_spec.specs.Machine.World.{Task, World, opening, task_called}
use Rattle.vt_spec.specs.Machine.Invariants.{IsWorld}
use Rattle.vt_laws_trees.specs.Trees.Calls.{HasNoOverlays, mounts_overlay}
use Rattle.vt_laws_trees.specs.Trees.Limits.{names_few_groups}
use Rattle.vt_laws_worlds.specs.Worlds.Kept.{IsPlain}
use Rattle.vt_laws_worlds.specs.Worlds.Permits.{IsFitPermit}

-- The opening world has the invariants,
abbrev pub OpeningIsAWorld : Type 0
OpeningIsAWorld =
    (fresh : Fresh ℕ) → ((j k : ℕ) → fresh j ≡ fresh k → j ≡ k)
    → IsWorld nat_eq (opening nat_eq fresh) × IsPlain (opening nat_eq fresh)

-- what is permitted fits the world, with overlays or without,
abbrev pub AllPermitsFit : Type 0
AllPermitsFit =
    (world : World ℕ) (fresh : Fresh ℕ) (task : Task ℕ) (call : Call) (permit : Permit ℕ) → IsWorld nat_eq world
    → Serves nat_eq world fresh → task_called world task.name ≡ Some task → mounts_overlay call ≡ false
    → judge_in nat_eq fresh world task call ≡ Ok permit → IsFitPermit fresh world task permit

-- in a world without overlays,
abbrev pub PermitsFit : Type 0
PermitsFit =
    (world : World ℕ) (fresh : Fresh ℕ) (task : Task ℕ) (call : Call) (permit : Permit ℕ) → IsWorld nat_eq world
    → IsPlain world
    → Serves nat_eq world fresh → task_called world task.name ≡ Some task → mounts_overlay call ≡ false
    → judge_in nat_eq fresh world task call ≡ Ok permit → IsFitPermit fresh world task permit

-- and every call, granted or refused, leaves a world that has them. A fork names at most 32 groups, as its line does.
abbrev pub CallsKeepWorlds : Type 0
CallsKeepWorlds =
    (world : World ℕ) (fresh : Fresh ℕ) (name : TaskName) (call : Call) → IsWorld nat_eq world → IsPlain world
    → Serves nat_eq world fresh → mounts_overlay call ≡ false → names_few_groups call ≡ true
    → IsWorld nat_eq (policy nat_eq fresh world name call).world
    × IsPlain (policy nat_eq fresh world name call).world

-- The worlds that a script leads to: each line is handed some numbers that are not in use, or was refused memory.
abbrev pub LeadsTo : Grammar → World ℕ → List (List ℕ) → List Bool → World ℕ → Type 0
LeadsTo grammar world [] refused left = left ≡ world
LeadsTo grammar world (line ∷ lines) [] left = ⊥
LeadsTo grammar world (line ∷ lines) (true ∷ refused) left =
    LeadsTo grammar (step_world world (line_step nat_eq grammar world line None)) lines refused left
LeadsTo grammar world (line ∷ lines) (false ∷ refused) left =
    (fresh : Fresh ℕ) × Serves nat_eq world fresh
    × LeadsTo grammar (step_world world (line_step nat_eq grammar world line (Some fresh))) lines refused left

-- Every world that a script without overlays leads to has the invariants.
abbrev pub ScriptsLeadToWorlds : Type 0
ScriptsLeadToWorlds =
    (grammar : Grammar) (lines : List (List ℕ)) (refused : List Bool) (fresh : Fresh ℕ) (left : World ℕ)
    → ((j k : ℕ) → fresh j ≡ fresh k → j ≡ k) → HasNoOverlays grammar lines
    → LeadsTo grammar (opening nat_eq fresh) lines refused left → IsWorld nat_eq left × IsPlain left
