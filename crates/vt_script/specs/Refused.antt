-- In which lines of a script an allocation may fail (ENOMEM): what a line keeps of its words, and what its call does.
use Rattle.std.specs.Prelude.{Bool, IsSomeAnd, List, None, Option, Some, [], false, nat_eq, true, ℕ, ⊤, ◌+◌, ◌∷◌, ◌⊎◌}
use Rattle.vt_answers.specs.Ends.{MayBeRefusedMemory}
use Rattle.vt_line.specs.Calls as words
use Rattle.vt_line.specs.Lines.{IsSpoken}
use Rattle.vt_permits.specs.Allocating as calls
use Rattle.vt_spec.specs.Language.Script.{Request, Version, overlays, request_of}
use Rattle.vt_spec.specs.Language.Script.Request.{Asking, Calling}
use Rattle.vt_spec.specs.Language.Script.Version.{One}
use Rattle.vt_spec.specs.Lists.{Fresh}
use Rattle.vt_spec.specs.Machine.Policy.{policy}
use Rattle.vt_spec.specs.Machine.Run.{first_world, line_step, numbers_for, step_world}
use Rattle.vt_spec.specs.Machine.World.{World}

-- A request may fail in a world for what is kept of its words. Or its call allocates, and the policy, which hands it
-- these numbers, grants it, or refuses it by a rule that is checked after receivers are gathered. A directive may fail
-- for what it tells, or for the tasks that it names.
abbrev pub MayFail : World ℕ → Fresh ℕ → Request → Type 0
MayFail world fresh (Calling task call) = words.TakesMemory (Calling task call)
    ⊎ (calls.TakesMemory call × MayBeRefusedMemory call (policy nat_eq fresh world task call).answer)
MayFail world fresh (Asking directive) = ⊤

-- a line has an answer, is of the grammar in a version of the language, and its request may fail
abbrev pub LineMayFail : Version → World ℕ → Fresh ℕ → List ℕ → Type 0
LineMayFail version world fresh line =
    IsSpoken line × IsSomeAnd (request_of (overlays version) line) (MayFail world fresh)

-- the world after a line that is handed these numbers, or none where an allocation fails
unfoldable pub world_left : Version → World ℕ → List ℕ → Option (Fresh ℕ) → World ℕ
world_left version world line fresh = step_world world (line_step nat_eq (overlays version) world line fresh)

-- One truth value for each line, of which the first has this number: whether an allocation failed in it. Only a line that
-- may fail in the world before it may say so.
abbrev pub MayBeRefusedFrom : Version → World ℕ → ℕ → List (List ℕ) → List Bool → Type 0
MayBeRefusedFrom version world number [] [] = Unit {0}
MayBeRefusedFrom version world number [] (refused ∷ more) = ⊥
MayBeRefusedFrom version world number (line ∷ lines) [] = ⊥
MayBeRefusedFrom version world number (line ∷ lines) (true ∷ more) =
    LineMayFail version world (numbers_for number) line
    × MayBeRefusedFrom version (world_left version world line None) (number + 1) lines more
MayBeRefusedFrom version world number (line ∷ lines) (false ∷ more) =
    MayBeRefusedFrom version (world_left version world line (Some (numbers_for number))) (number + 1) lines more

-- of the lines of a script, in a version of the language
abbrev pub MayBeRefusedIn : Version → List (List ℕ) → List Bool → Type 0
MayBeRefusedIn version lines refused = MayBeRefusedFrom version first_world 1 lines refused

-- and of those of a script of the first version
abbrev pub MayBeRefused : List (List ℕ) → List Bool → Type 0
MayBeRefused lines refused = MayBeRefusedIn One lines refused
