-- Where rules stand in the policy's order: by letter, and by number within a letter.
use Rattle.std.specs.Prelude.{Bool, List, [], codes, drop, if◌then◌else◌, nat_le, slice_index, true, ℕ, ◌&&◌, ◌*◌, ◌+◌, ◌==◌, ◌∷◌, ◌≡◌}
use Rattle.std.specs.List.{list_any}
use Rattle.std.specs.Str.{bytes_eq}
use Rattle.vt_spec.specs.declared.errors.Rule.{Rule}
use Rattle.vt_spec.specs.declared.errors.Rule.TheVariants.{W9}
use Rattle.vt_spec.specs.Errors.{Rules, rule_name}
use Rattle.vt_spec.specs.Language.Script.{value_from}

-- the letters in their order: script, capabilities, walk, entries, flags, layers, places, credentials, overlays, the
-- mounter, mounts
abbrev pub letters : List ℕ
letters = codes "SKWEFLPCOBM"

abbrev pub place_of_letter : ℕ → List ℕ → ℕ
place_of_letter letter [] = 0
place_of_letter letter (first ∷ later) = if letter == first then 0 else 1 + place_of_letter letter later

-- where a rule stands, by its printed name
abbrev pub rank : Rule → ℕ
rank rule = 100 * place_of_letter (slice_index (rule_name rule) 0) letters + value_from 10 0 (drop 1 (rule_name rule))

-- no row stands before one above it, nor before this rank
abbrev pub is_in_order_from : ℕ → Rules → Bool
is_in_order_from least [] = true
is_in_order_from least (row ∷ rows) = nat_le least (rank row.1) && is_in_order_from (rank row.1) rows

abbrev pub IsInOrder : Rules → Type 0
IsInOrder rules = is_in_order_from 0 rules ≡ true

-- a table that is asked after a walk: it has no rule of the walk, or of the script or of capabilities
abbrev pub IsInOrderAfterWalk : Rules → Type 0
IsInOrderAfterWalk rules = is_in_order_from (rank W9 + 1) rules ≡ true

-- the same rule, by its printed name
abbrev pub is_among : Rule → List Rule → Bool
is_among rule rules = list_any (λ one. bytes_eq (rule_name one) (rule_name rule)) rules
