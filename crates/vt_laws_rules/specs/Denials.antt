-- What a refused call, and a call that only looks, leave as they were.
use Rattle.std.specs.Prelude.{Err, List, None, Option, true, ℕ, nat_eq, ◌≡◌}
use Rattle.vt_spec.specs.declared.errors.Deny.{Deny}
use Rattle.vt_spec.specs.Language.Calls.{Call, Directive, TaskName}
use Rattle.vt_spec.specs.Lists.{Fresh}
use Rattle.vt_spec.specs.Machine.Outcomes.{Outcome}
use Rattle.vt_spec.specs.Machine.Policy.{only_looks, policy}
use Rattle.vt_spec.specs.Machine.Run.{line_step, step_world}
use Rattle.vt_spec.specs.Machine.Run.Step.{Answered}
use Rattle.vt_spec.specs.Language.Script.{Grammar}
use Rattle.vt_spec.specs.Machine.Sealed.{directed}
use Rattle.vt_spec.specs.Machine.World.{World}

-- a call that is refused leaves the whole world (profile)
abbrev pub DenialChangesNothing : Type 0
DenialChangesNothing =
    (fresh : Fresh ℕ) (world : World ℕ) (name : TaskName) (call : Call) (deny : Deny)
    → (policy nat_eq fresh world name call).answer ≡ Err deny
    → (policy nat_eq fresh world name call).world ≡ world

-- a line of a script that is answered by a denial leaves the world as it was, in each version of the language
abbrev pub DeniedLineChangesNothing : Type 0
DeniedLineChangesNothing =
    (grammar : Grammar) (world : World ℕ) (line : List ℕ) (fresh : Option (Fresh ℕ)) (outcome : Outcome ℕ) (deny : Deny)
    → line_step nat_eq grammar world line fresh ≡ Answered outcome
    → outcome.answer ≡ Err deny
    → outcome.world ≡ world

-- a line that was refused memory leaves the world as it was, whatever it asks for: ENOMEM
abbrev pub RefusedMemoryChangesNothing : Type 0
RefusedMemoryChangesNothing =
    (grammar : Grammar) (world : World ℕ) (line : List ℕ)
    → step_world world (line_step nat_eq grammar world line None) ≡ world

-- a call that only looks leaves the world as it was, granted or refused: no change number is raised (profile)
abbrev pub LookChangesNothing : Type 0
LookChangesNothing =
    (fresh : Fresh ℕ) (world : World ℕ) (name : TaskName) (call : Call)
    → only_looks call ≡ true
    → (policy nat_eq fresh world name call).world ≡ world

-- what is asked of the machine itself leaves the world as it was
abbrev pub DirectiveChangesNothing : Type 0
DirectiveChangesNothing = (world : World ℕ) (directive : Directive) → (directed nat_eq world directive).world ≡ world
