-- The rules W1 and W2 of `Rattle.vt_spec.specs.PathText`, in words.
use Rattle.std.specs.Prelude.{◌≢◌, ℕ, ◌<◌, ◌≤◌, ◌⊎◌, List, [], length, All, Any}
use Rattle.vt_spec.specs.PathText.{words}
use Rattle.vt_spec.specs.Language.Limits.{longest_path, longest_name}

-- the path, or one of its words, is too long
abbrev pub IsTooLong : List ℕ → Type 0
IsTooLong text = (longest_path < length text) ⊎ Any (λ word. longest_name < length word) (words text)

-- a text that may be walked: it is not empty, and not too long
pub record IsWalkable (text : List ℕ) : Type 0 where
  pub not_empty : text ≢ []
  pub path_limit : length text ≤ longest_path
  pub name_limit : All (λ word. length word ≤ longest_name) (words text)
