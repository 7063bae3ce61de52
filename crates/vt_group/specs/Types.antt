-- The types of mounts, and how many members each group has.
use Rattle.std.specs.Prelude.{Bool, IfSome, List, None, Option, Some, [], if◌then◌else◌, is_some, true, unwrap_or, ℕ, ◌+◌, ◌∷◌, ◌≡◌}
use Rattle.std.specs.Map.{lookup}
use Rattle.vt_spec.specs.Lists.{holds_of}
use Rattle.vt_location.specs.declared.mounts.Propagation.{Propagation}
use Rattle.vt_location.specs.declared.numbers.GroupId.{GroupId}
use Rattle.vt_group.specs.ByNumber.{Numbered, has_room}
use Rattle.vt_group.specs.Indexed.{group_of_kind}
use Rattle.vt_group.specs.Sets.{same_group}

-- the types, and how many members the groups have
pub record Kept : Type 0 where
  pub kinds : Numbered Propagation
  pub counts : List (GroupId × ℕ)

-- a mount of this type is a member of the group
abbrev pub is_in_group : GroupId → ℕ × Propagation → Bool
is_in_group group entry = holds_of (same_group group) (group_of_kind entry.1)

-- there is room for the count of a group
abbrev pub counts_group : List (GroupId × ℕ) → GroupId → Bool
counts_group counts group = is_some (lookup (same_group group) counts)

abbrev pub count_of : List (GroupId × ℕ) → GroupId → ℕ
count_of counts group = unwrap_or (lookup (same_group group) counts) 0

-- one, if a mount of this type is a member of the group
abbrev pub one_in : GroupId → Option Propagation → ℕ
one_in group None = 0
one_in group (Some kind) = if holds_of (same_group group) (group_of_kind kind) then 1 else 0

abbrev pub count_members : GroupId → List (ℕ × Propagation) → ℕ
count_members group [] = 0
count_members group (entry ∷ rest) = one_in group (Some entry.1) + count_members group rest

-- each group has as many members as are counted
abbrev pub AreCounted : List (GroupId × ℕ) → List (ℕ × Propagation) → Type 0
AreCounted counts es = (group : GroupId) → count_of counts group ≡ count_members group es

-- there is room for the type of a mount
abbrev pub Fits : Kept → ℕ → Propagation → Type 0
Fits types mount kind =
    (has_room types.kinds mount ≡ true)
    × IfSome (group_of_kind kind) (λ group. counts_group types.counts group ≡ true)

-- what has room keeps it
abbrev pub KeepsRoom : Kept → Kept → Type 0
KeepsRoom old new = (mount : ℕ) (kind : Propagation) → Fits old mount kind → Fits new mount kind
