-- The version that the first line of a file names, as in `#!/usr/bin/env -S vtree test --script 2`.
use Rattle.std.specs.Prelude.{Bool, List, None, Option, Some, [], codes, false, true, if◌then◌else◌, is_none, nat_eq, not, unwrap_or, ℕ, ◌==◌, ◌∷◌}
use Rattle.std.specs.List.{find, slice_split, starts_with}
use Rattle.std.specs.Option.{option_map_or}
use Rattle.std.specs.Str.{bytes_eq}
use Rattle.vt_spec.specs.Language.Script.{Version, behind, lines_of}
use Rattle.vt_spec.specs.Language.Script.Version.{One, Two}
use Rattle.vt_spec.specs.Lists.{or_else, then_some}
use Rattle.vt_spec.specs.PathText.{is_empty}

-- the words of a line stand between spaces
abbrev pub words_of : List ℕ → List (List ℕ)
words_of line = slice_split (λ byte. byte == 32) line

-- the first word that is not empty
abbrev pub first_word : List (List ℕ) → Option (List ℕ)
first_word words = find (λ word. not (is_empty word)) words

-- the word behind `--script`, or behind `--script=`
abbrev pub named_by : List (List ℕ) → Option (List ℕ)
named_by [] = None
named_by (word ∷ words) =
    or_else (behind (codes "--script=") word)
    (if bytes_eq word (codes "--script") then first_word words else named_by words)

-- of the first line, if it names a program
abbrev pub named_first : List (List ℕ) → Option (List ℕ)
named_first [] = None
named_first (line ∷ lines) = if starts_with nat_eq line (codes "#!") then named_by (words_of line) else None

-- the word by which a file names a version
abbrev pub version_word : List ℕ → Option (List ℕ)
version_word file = named_first (lines_of file)

-- the version of this name
abbrev pub version_named : List ℕ → Option Version
version_named word =
    if bytes_eq word (codes "1") then Some One
    else if bytes_eq word (codes "2") then Some Two
    else None

-- a file is wrong if it names a version that does not exist
abbrev pub names_no_version : List ℕ → Bool
names_no_version file = option_map_or (λ word. is_none (version_named word)) (version_word file) false

-- the version in which a file is read: the one that is asked for, else the one that it names, else the first
abbrev pub version_in : Option Version → List ℕ → Version
version_in (Some version) file = version
version_in None file = unwrap_or (then_some (version_word file) version_named) One

-- the same where the word may have come
abbrev pub named_next : (is_next : Bool) → List (List ℕ) → Option (List ℕ)
named_next true words = first_word words
named_next false words = named_by words
