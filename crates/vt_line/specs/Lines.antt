-- What a line of a script says.
use Rattle.std.specs.Prelude.{◌≡◌, ◌≤◌, ℕ, true, false, List, length, Some}
use Rattle.vt_spec.specs.Language.Script.{Version, is_silent, overlays, request_of}
use Rattle.vt_spec.specs.Language.Limits.{longest_line}
use Rattle.vt_spec.specs.Language.Script.Request.{Asking, Calling}
use Rattle.vt_line.specs.declared.line.Line.{Line}
use Rattle.vt_line.specs.declared.line.Line.TheVariants.{Silent, Call, Ask}
use Rattle.vt_request.specs.Requests.{call_of, directive_of}

-- a line that has no answer
abbrev pub IsSilent : List ℕ → Type 0
IsSilent text = (length text ≤ longest_line) × (is_silent text ≡ true)

-- a line of a length that may be read, and that has an answer
abbrev pub IsSpoken : List ℕ → Type 0
IsSpoken text = (length text ≤ longest_line) × (is_silent text ≡ false)

-- the line is what the text says, in a version of the grammar of the calls on files, tasks, mounts and namespaces, of
-- whiteouts and opaque directories, and of the directives
abbrev pub IsReadingOf : Version → List ℕ → Line → Type 0
IsReadingOf version text Silent = IsSilent text
IsReadingOf version text (Call task call) =
    IsSpoken text × (request_of (overlays version) text ≡ Some (Calling task (call_of call)))
IsReadingOf version text (Ask directive) =
    IsSpoken text × (request_of (overlays version) text ≡ Some (Asking (directive_of directive)))
