-- Lines that ask for calls.
use Rattle.std.specs.Prelude.{Bool, List, None, Option, Some, is_some, length, nat_le, not, ℕ, ◌&&◌}
use Rattle.vt_spec.specs.Language.Calls.{Call}
use Rattle.vt_spec.specs.Language.Limits.{longest_line}
use Rattle.vt_spec.specs.Language.Script.{Request, Version, is_silent, overlays, request_of}
use Rattle.vt_spec.specs.Language.Script.Request.{Asking, Calling}

-- the call of a request, if it is one for a call
abbrev pub call_asked_for : Option Request → Option Call
call_asked_for None = None
call_asked_for (Some (Calling task call)) = Some call
call_asked_for (Some (Asking directive)) = None

-- the call that a line asks for
abbrev pub line_call : Version → List ℕ → Option Call
line_call version text = call_asked_for (request_of (overlays version) text)

-- a line of a length that may be read, and that asks for a call
abbrev pub is_call_line : Version → List ℕ → Bool
is_call_line version text =
    nat_le (length text) longest_line && not (is_silent text) && is_some (line_call version text)
