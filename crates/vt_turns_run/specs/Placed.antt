-- What a line asks for, and the queue in which it stands.
use Rattle.std.specs.Prelude.{List, None, Option, Some, if◌then◌else◌, length, nat_lt, option_map, ℕ, ◌<◌, ◌≡◌, ◌⊎◌}
use Rattle.vt_spec.specs.Language.Calls.{Call as CallMeant}
use Rattle.vt_spec.specs.Language.Limits.{longest_line}
use Rattle.vt_spec.specs.Language.Script.{Version, Who as WhoMeant, overlays, request_of}
use Rattle.vt_spec.specs.Language.Script.Request.{Asking, Calling}
use Rattle.vt_spec.specs.Machine.Turns.{Queued, queued, queued_line, refused_line}
use Rattle.vt_request.specs.Requests.{directive_of}
use Rattle.vt_line.specs.Lines.{IsSilent, IsSpoken}
use Rattle.vt_queues.specs.QueuesValue.{item_meant, who_meant}
use Rattle.vt_queues.specs.declared.item.Item.{Item}
use Rattle.vt_queues.specs.declared.item.Who.{Who}
use Rattle.vt_turns_run.specs.declared.lines.Asked.{Asked}
use Rattle.vt_turns_run.specs.declared.lines.Asked.TheVariants.{Ask, Call, Nothing, Silent}

-- it is too long, or asks for nothing in a version of the grammar
abbrev pub IsOfNoGrammar : Version → List ℕ → Type 0
IsOfNoGrammar version text =
    (longest_line < length text) ⊎ (IsSpoken text × (request_of (overlays version) text ≡ None))

-- the line asks for this
abbrev pub IsAsked : Version → List ℕ → Asked → Type 0
IsAsked version text Silent = IsSilent text
IsAsked version text (Call task) =
    IsSpoken text × (call : CallMeant) × (request_of (overlays version) text ≡ Some (Calling task call))
IsAsked version text (Ask directive) =
    IsSpoken text × (request_of (overlays version) text ≡ Some (Asking (directive_of directive)))
IsAsked version text Nothing = IsOfNoGrammar version text

-- what stands there, by the number of its line
abbrev pub place_meant : ℕ → Option (Who × Item) → Option (WhoMeant × Queued)
place_meant number place = option_map (λ entry. queued number (who_meant entry.0) (item_meant entry.1)) place

-- a line that is refused, in the queue of its first token; one that is too long in none
abbrev pub refused_short : ℕ → List ℕ → Option (WhoMeant × Queued)
refused_short number line = if nat_lt longest_line (length line) then None else refused_line number line

-- the line stands there, as the definitions have it
abbrev pub IsPlaced : Version → List ℕ → Option (Who × Item) → Type 0
IsPlaced version line place =
    (number : ℕ) → place_meant number place ≡ queued_line (overlays version) (number, line)
