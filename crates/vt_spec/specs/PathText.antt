-- A path is its words: path_resolution(7), and limits.h for PATH_MAX and NAME_MAX.
use Rattle.std.specs.Prelude.{ℕ, ◌==◌, nat_lt, Bool, true, false, not, ◌||◌, List, [], ◌∷◌, length, filter, slice_index, Result, Ok}
use Rattle.std.specs.List.{list_any}
use Rattle.vt_spec.specs.Language.Limits.{longest_name, longest_path}
use Rattle.vt_spec.specs.declared.errors.Deny.{Deny}
use Rattle.vt_spec.specs.declared.errors.Rule.TheVariants.{W1, W2}
use Rattle.vt_spec.specs.Errors.{Rules, unless}

-- the parts with one byte more before them; a separator ends a part
abbrev pub with_byte : (slash : Bool) → ℕ → List (List ℕ) → List (List ℕ)
with_byte true byte parts = [] ∷ parts
with_byte false byte [] = (byte ∷ []) ∷ []
with_byte false byte (part ∷ parts) = (byte ∷ part) ∷ parts

-- the parts of a text before, between and after its separators
abbrev pub parts : ℕ → List ℕ → List (List ℕ)
parts separator [] = [] ∷ []
parts separator (byte ∷ bytes) = with_byte (byte == separator) byte (parts separator bytes)

-- the empty text
abbrev pub is_empty : List ℕ → Bool
is_empty [] = true
is_empty (byte ∷ bytes) = false

-- the parts that are not empty
abbrev pub words_between : ℕ → List ℕ → List (List ℕ)
words_between separator text = filter (λ part. not (is_empty part)) (parts separator text)

-- the words of a path: what stands between its slashes, of which several count as one
abbrev pub words : List ℕ → List (List ℕ)
words path = words_between 47 path

-- a path that begins with a slash starts at the task's root
abbrev pub is_absolute : List ℕ → Bool
is_absolute path = slice_index path 0 == 47

-- a trailing slash asks for a directory
abbrev pub ends_in_slash : List ℕ → Bool
ends_in_slash [] = false
ends_in_slash (byte ∷ []) = byte == 47
ends_in_slash (byte ∷ next ∷ bytes) = ends_in_slash (next ∷ bytes)

-- W1 and W2
abbrev pub path_rules : List ℕ → Rules
path_rules path =
    (is_empty path, W1)
    ∷ (nat_lt longest_path (length path) || list_any (λ word. nat_lt longest_name (length word)) (words path), W2)
    ∷ []

-- a text that may be walked
abbrev pub parsed_path : List ℕ → Result (List ℕ) Deny
parsed_path path = unless (path_rules path) (Ok path)
