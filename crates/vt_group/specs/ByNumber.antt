-- A map by numbers in which room can be reserved.
use Rattle.std.specs.Prelude.{Bool, List, Option, filter_map, is_some, option_map, ℕ, ◌||◌}
use Rattle.std.specs.BTreeMap.{is_at}
use Rattle.std.specs.List.{list_any}
use Rattle.std.specs.List.Sorted.{IsStrictlySortedBy}
use Rattle.std.specs.Map.{keys_of, lookup}
use Rattle.std.specs.Ordering.{nat_cmp}
use Rattle.vt_location.specs.InOrder.{in_order_by}

-- the values in the order of their numbers, and the numbers that have room for one: each that has a value is among them
pub record Numbered (V : Type 0) : Type 0 where
  pub entries : List (ℕ × V)
  pub room : List ℕ

-- a number without a value is room for one
abbrev pub entry_of : {V : Type 0} → ℕ × Option V → Option (ℕ × V)
entry_of place = option_map (λ value. (place.0, value)) place.1

abbrev pub entries_of : {V : Type 0} → List (ℕ × Option V) → List (ℕ × V)
entries_of places = filter_map entry_of places

-- the values in the order of their numbers, in whatever order the places are kept
abbrev pub values_of : {V : Type 0} → List (ℕ × Option V) → List (ℕ × V)
values_of places = entries_of (in_order_by (λ number. number) places)

abbrev pub value_at : {V : Type 0} → Numbered V → ℕ → Option V
value_at map number = lookup (is_at (nat_cmp number)) map.entries

abbrev pub has_room : {V : Type 0} → Numbered V → ℕ → Bool
has_room map number = is_some (value_at map number) || list_any (is_at (nat_cmp number)) map.room

-- the numbers of the values ascend
abbrev pub IsAscending : {V : Type 0} → Numbered V → Type 0
IsAscending map = IsStrictlySortedBy nat_cmp (keys_of map.entries)
