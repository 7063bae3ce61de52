-- The rules that refuse a call one after the other, each where those before it are let pass.
use Rattle.std.specs.Prelude.{Bool, List, None, Option, Some, [], length, true, ⊤, ℕ, ◌++◌, ◌-◌, ◌∷◌, ◌≡◌, ◌≤◌, ◌⊎◌}
use Rattle.vt_laws_rules.specs.RuleRanks.{is_among}
use Rattle.vt_spec.specs.declared.errors.Rule.{Rule}
use Rattle.vt_spec.specs.Language.Calls.{Call, TaskName}
use Rattle.vt_spec.specs.Language.Limits.{longest_line}
use Rattle.vt_spec.specs.Language.Script.{Version, overlays, request_of}
use Rattle.vt_spec.specs.Language.Script.Request.{Calling}
use Rattle.vt_spec.specs.Machine.Looks.{Looks}
use Rattle.vt_spec.specs.Machine.Permits.{Permit}
use Rattle.vt_spec.specs.Machine.World.{Task}
use Rattle.vt_line.specs.Lines.{IsSpoken}
use Rattle.vt_later.specs.Passing.{judge_past, refused_by}

-- the line is a call
abbrev pub IsCallIn : Version → List ℕ → Call → Type 0
IsCallIn version line call =
    IsSpoken line × (length line ≤ longest_line)
    × ((name : TaskName) × (request_of (overlays version) line ≡ Some (Calling name call)))

-- the rule that refuses a task's call where these rules are let pass
abbrev pub refusal : Looks ℕ → (Permit ℕ → Bool) → Task ℕ → Call → List Rule → Option Rule
refusal looks overfills task call passed = refused_by (judge_past looks overfills task call passed)

-- no further rule refuses: none does where these are let pass, or one of them, which cannot be let pass
abbrev pub IsLast : List Rule → Option Rule → Type 0
IsLast passed None = ⊤
IsLast passed (Some rule) = is_among rule passed ≡ true

-- each of these rules refuses where those before it are let pass too, and no further one does, up to so many
abbrev pub RefuseInTurn : (List Rule → Option Rule) → (most : ℕ) → List Rule → List Rule → Type 0
RefuseInTurn refuses most passed [] = (most ≡ 0) ⊎ IsLast passed (refuses passed)
RefuseInTurn refuses most passed (rule ∷ rest) =
    (refuses passed ≡ Some rule) × RefuseInTurn refuses (most - 1) (passed ++ rule ∷ []) rest
