-- Names, under which the mounts and the lower groups of each group are kept.
use Rattle.std.specs.Prelude.{Bool, List, None, Option, Some, [], length, true, unwrap_or, ℕ, ◌+◌, ◌∷◌, ◌≡◌}
use Rattle.std.specs.List.{list_any}
use Rattle.std.specs.Map.{lookup}
use Rattle.vt_location.specs.declared.numbers.GroupId.{GroupId}
use Rattle.vt_group.specs.declared.sets.Sets.{Sets}
use Rattle.vt_group.specs.Sets.{has, same_group}

-- each group with its names
abbrev pub Named : Type 0
Named = List (GroupId × List GroupId)

abbrev pub names_of : Named → GroupId → List GroupId
names_of names group = unwrap_or (lookup (same_group group) names) []

abbrev pub names_of_any : Named → Option GroupId → List GroupId
names_of_any names None = []
names_of_any names (Some group) = names_of names group

abbrev pub count_names : Named → ℕ
count_names [] = 0
count_names (entry ∷ names) = length entry.1 + count_names names

-- one is kept under a name of a group
abbrev pub is_under : {T : Type 0} → (T → T → Bool) → Named → Sets T → T → GroupId → Bool
is_under eq names sets one group = list_any (λ name. has eq name one sets) (names_of names group)

-- no group loses a name
abbrev pub KeepsNames : Named → Named → Type 0
KeepsNames old new =
    (at : GroupId) (test : GroupId → Bool) → list_any test (names_of old at) ≡ true
    → list_any test (names_of new at) ≡ true
