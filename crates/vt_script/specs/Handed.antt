-- What a line of a run is handed, and what may be told of lines that are handed numbers, or none.
use Rattle.std.specs.Prelude.{◌≡◌, ℕ, ◌+◌, nat_eq, Bool, List, [], ◌∷◌, ◌++◌, Option, None, Some, is_none, option_map}
use Rattle.vt_spec.specs.Language.Script.{Version, overlays}
use Rattle.vt_spec.specs.Machine.Run.{Step, line_step, step_text, step_world}
use Rattle.vt_spec.specs.Machine.SameWorlds.{SameWorlds}
use Rattle.vt_spec.specs.Machine.World.{World}
use Rattle.vt_laws_rules.specs.Numbers.{Allotment}
use Rattle.vt_laws_trees.specs.Runs.Handed.{may_be_given}
use Rattle.vt_laws_trees.specs.Runs.Runs.{ServesInHand}
use Rattle.vt_script.specs.Refused.{LineMayFail}

-- a line is handed numbers that serve the world, or none where an allocation failed, as it may with some such numbers
abbrev pub IsHanded : Version → World ℕ → List ℕ → Option Allotment → Type 0
IsHanded version world line None =
    (allotment : Allotment) × ServesInHand may_be_given world allotment × LineMayFail version world allotment.new line
IsHanded version world line (Some allotment) = ServesInHand may_be_given world allotment

-- the step of a line to which these numbers are handed
abbrev pub step_of : Version → World ℕ → List ℕ → Option Allotment → Step ℕ
step_of version world line handed =
    line_step nat_eq (overlays version) world line (option_map (λ allotment. allotment.new) handed)

-- Which text may be written for these lines, of which the first has this number, where allocations fail in those that are
-- refused: each is handed what it may be, and the run goes on from any world that is the same.
abbrev pub TellsHanded : Version → World ℕ → ℕ → List (List ℕ) → List Bool → List ℕ → Type 0
TellsHanded version world number [] [] text = text ≡ []
TellsHanded version world number [] (refused ∷ more) text = ⊥
TellsHanded version world number (line ∷ lines) [] text = ⊥
TellsHanded version world number (line ∷ lines) (refused ∷ more) text =
    (handed : Option Allotment) × (is_none handed ≡ refused) × IsHanded version world line handed
    × (next : World ℕ) × SameWorlds (step_world world (step_of version world line handed)) next
    × (rest : List ℕ) × (text ≡ step_text number (step_of version world line handed) ++ rest)
    × TellsHanded version next (number + 1) lines more rest
