-- The lines that a run refuses by S1, in a version of the language.
use Rattle.std.specs.Prelude.{Bool, List, ℕ, is_none, length, nat_lt, not, ◌&&◌, ◌||◌}
use Rattle.vt_spec.specs.Language.Limits.{longest_line}
use Rattle.std.specs.List.{count_by}
use Rattle.vt_spec.specs.Language.Script.{Version, is_silent, lines_of, overlays, request_of}

-- it is too long, or it has an answer and asks for nothing of the grammar
abbrev pub is_refused : Version → List ℕ → Bool
is_refused version line =
    nat_lt longest_line (length line) || (not (is_silent line) && is_none (request_of (overlays version) line))

-- how many lines of a script a run refuses
unfoldable pub refused_in : Version → List ℕ → ℕ
refused_in version text = count_by (is_refused version) (lines_of text)
