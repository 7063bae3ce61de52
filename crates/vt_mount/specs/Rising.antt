-- Lists in the order of their elements: mounts in that of their numbers, and what stands on an inode.
use Rattle.std.specs.Prelude.{Bool, List, None, Option, Some, [], false, if◌then◌else◌, length, nat_eq, nat_lt, not, option_to_list, true, ℕ, ◌≡◌, ◌&&◌, ◌-◌, ◌∷◌, ◌≤◌}
use Rattle.std.specs.List.{list_all}
use Rattle.vt_deque.specs.SliceDeque.{items, room}
use Rattle.vt_deque.specs.declared.slice_deque.SliceDeque.{SliceDeque}
use Rattle.vt_location.specs.declared.numbers.MountId.{MountId}

-- one mount has a smaller number than another
abbrev pub precedes : MountId → MountId → Bool
precedes a b = nat_lt a.count b.count

-- of two elements that are not the same, one comes before the other
pub record IsOrder {T : Type 0} (before same : T → T → Bool) : Type 0 where
  pub turned : (a b : T) → before a b ≡ true → before b a ≡ false
  pub climbs : (a b c : T) → before b a ≡ false → before c b ≡ false → before c a ≡ false
  pub apart : (a b : T) → before a b ≡ true → same a b ≡ false
  pub apart_behind : (a b : T) → before a b ≡ true → same b a ≡ false
  pub total : (a b : T) → before a b ≡ false → same a b ≡ false → before b a ≡ true
  pub itself : (a : T) → same a a ≡ true

module _ {T : Type 0} (before : T → T → Bool) where
  -- no element of the list comes before one
  abbrev pub none_below : T → List T → Bool
  none_below one list = list_all (λ other. not (before other one)) list

  -- each element of the list comes before one
  abbrev pub comes_last : T → List T → Bool
  comes_last one list = list_all (λ other. before other one) list

  -- none comes before an earlier one
  abbrev pub rises : List T → Bool
  rises [] = true
  rises (one ∷ list) = none_below one list && rises list

  -- a list, with one before the first that comes behind it
  abbrev pub inserted : T → List T → List T
  inserted one [] = one ∷ []
  inserted one (other ∷ list) = if before one other then one ∷ other ∷ list else other ∷ inserted one list

-- what is held: a single one in its place, or a list
unfoldable pub held : {T : Type 0} → Option T → Option (SliceDeque T) → List T
held one None = option_to_list one
held one (Some list) = items list

-- for how many more there is room
abbrev pub room_for : {T : Type 0} → Option T → Option (SliceDeque T) → ℕ
room_for one None = 1 - length (option_to_list one)
room_for one (Some list) = room list

abbrev pub HasRoom : {T : Type 0} → Option T → Option (SliceDeque T) → ℕ → Type 0
HasRoom one many reserved = reserved ≤ room_for one many
