-- The lines of a file of scripts, without the answers that they want.
use Rattle.std.specs.Prelude.{Bool, List, [], codes, drop, if◌then◌else◌, length, nat_eq, nat_le, true, ℕ, ◌&&◌, ◌++◌, ◌==◌, ◌||◌, ◌∷◌}
use Rattle.std.specs.List.{flat_map, starts_with}
use Rattle.vt_spec.specs.Language.Limits.{longest_line}
use Rattle.vt_spec.specs.Language.Script.{is_silent, lines_of}
use Rattle.vt_wanted.specs.declared.entry.Entry.{Entry}
use Rattle.vt_wanted.specs.declared.entry.Entry.TheVariants.{Line, More, Name}

-- a text that is empty, or begins with a space
abbrev pub begins_apart : List ℕ → Bool
begins_apart [] = true
begins_apart (byte ∷ rest) = byte == 32

-- `== NAME` begins a script
abbrev pub is_name : List ℕ → Bool
is_name line = starts_with nat_eq line (codes "==") && begins_apart (drop 2 line)

-- `=> MORE` is a further line of the answer above
abbrev pub is_more : List ℕ → Bool
is_more line = starts_with nat_eq line (codes "=> ")

-- ` =>` stands before an answer, also before none
abbrev pub is_mark : List ℕ → Bool
is_mark text = starts_with nat_eq text (codes " =>") && begins_apart (drop 3 text)

-- what stands before the first mark
abbrev pub before_mark : List ℕ → List ℕ
before_mark [] = []
before_mark (byte ∷ rest) = if is_mark (byte ∷ rest) then [] else byte ∷ before_mark rest

-- the call of a line of a file; marks in comments and spaces are none, unless the line is longer than a comment may be
abbrev pub call_of : List ℕ → List ℕ
call_of line =
    if is_name line || is_more line then []
    else if is_silent line && nat_le (length line) longest_line then line
    else before_mark line

-- the calls of a file, one a line for each of its lines
abbrev pub calls_of : List ℕ → List ℕ
calls_of file = flat_map (λ line. call_of line ++ (10 ∷ [])) (lines_of file)

-- the call of what a line is
abbrev pub call_in : Entry → List ℕ
call_in (Name name) = []
call_in (More more) = []
call_in (Line call answer) = call.now
