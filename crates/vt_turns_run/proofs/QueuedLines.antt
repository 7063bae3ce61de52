-- The lines of a script, put in their queues one after the other, and those of a schedule.
use Rattle.std.proofs.Common.{◌+◌, ◌≡◌, refl, sym, ap, ◌∙◌, ℕ, List, [], ◌∷◌, ◌++◌, Option, None, Some, append_assoc, map}
use Rattle.std.specs.List.{cons_option, filter_map}
use Rattle.std.proofs.lemmas.List.{map-append}
use Rattle.vt_spec.proofs.Common.{Version, Who, folded, lines_of}
use Rattle.vt_spec.specs.Language.Script.{overlays}
use Rattle.vt_spec.specs.Lists.{counted_from}
use Rattle.vt_spec.specs.Machine.Turns.{Queue, Queued, queued_line, with_item_last}

-- these queues, and the lines of a text put in them, counted from a number on
abbrev pub queues_from : Version → List Queue → ℕ → List ℕ → List Queue
queues_from version queues number text =
    folded with_item_last queues (filter_map (queued_line (overlays version)) (counted_from number (lines_of text)))

-- one line is put in its queue, or in none
abbrev pub with_line : List Queue → Option (Who × Queued) → List Queue
with_line queues None = queues
with_line queues (Some entry) = with_item_last queues entry

put_line : (queues : List Queue) (place : Option (Who × Queued)) (later : List (Who × Queued))
    → folded with_item_last queues (cons_option place later) ≡ folded with_item_last (with_line queues place) later
put_line queues None later = refl
put_line queues (Some entry) later = refl

pub next_line : (version : Version) (queues : List Queue) (number : ℕ) (text line rest : List ℕ)
    → lines_of text ≡ line ∷ lines_of rest → (place : Option (Who × Queued))
    → place ≡ queued_line (overlays version) (number, line)
    → queues_from version queues number text ≡ queues_from version (with_line queues place) (number + 1) rest
next_line version queues number text line rest lines place is =
    let later = filter_map (queued_line (overlays version)) (counted_from (number + 1) (lines_of rest)) in
    ap (λ list. folded with_item_last queues (filter_map (queued_line (overlays version)) (counted_from number list))) lines
    ∙ ap (λ (p : Option (Who × Queued)). folded with_item_last queues (cons_option p later)) (sym is)
    ∙ put_line queues place later

-- where nothing is left
pub no_line : (version : Version) (queues : List Queue) (number : ℕ) (text : List ℕ) → text ≡ []
    → queues_from version queues number text ≡ queues
no_line version queues number text none = ap (queues_from version queues number) none

-- one turn more
pub next_turn : {T W : Type 0} (meant : T → W) (who : List ℕ → W) (turns : List T) (turn : T) (text line rest : List ℕ)
    → lines_of text ≡ line ∷ lines_of rest → meant turn ≡ who line
    → map meant (turns ++ turn ∷ []) ++ map who (lines_of rest) ≡ map meant turns ++ map who (lines_of text)
next_turn meant who turns turn text line rest lines is =
    ap (λ list. list ++ map who (lines_of rest)) (map-append meant turns (turn ∷ []))
    ∙ append_assoc (map meant turns) (meant turn ∷ []) (map who (lines_of rest))
    ∙ ap (λ w. map meant turns ++ w ∷ map who (lines_of rest)) is
    ∙ ap (λ list. map meant turns ++ map who list) (sym lines)
