-- A text as JSON has it.
use Rattle.std.specs.Prelude.{List, [], flat_map, if◌then◌else◌, nat_lt, ℕ, ◌%◌, ◌&&◌, ◌++◌, ◌/◌, ◌==◌, ◌||◌, ◌∷◌}
use Rattle.vt_spec.specs.Language.Printed.{hex_digit}

-- a byte between the marks of a text: itself, one that has a meaning there behind a backslash, and one that is not printed
-- as `\xhh`, whose backslash stands twice
abbrev pub json_byte : ℕ → List ℕ
json_byte byte =
    if byte == 34 || byte == 92 then 92 ∷ byte ∷ []
    else if nat_lt 31 byte && nat_lt byte 127 then byte ∷ []
    else 92 ∷ 92 ∷ 120 ∷ hex_digit (byte / 16) ∷ hex_digit (byte % 16) ∷ []

-- a text with its marks
abbrev pub json_text : List ℕ → List ℕ
json_text bytes = 34 ∷ flat_map json_byte bytes ++ 34 ∷ []
