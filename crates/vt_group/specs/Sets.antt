-- Sets of mounts or groups, each under a group.
use Rattle.std.specs.Prelude.{Bool, List, [], nat_eq, option_map, unwrap_or}
use Rattle.std.specs.List.{list_any}
use Rattle.std.specs.Map.{lookup}
use Rattle.std.specs.Option.{option_to_list}
use Rattle.vt_deque.specs.SliceDeque.{items}
use Rattle.vt_location.specs.declared.numbers.GroupId.{GroupId}
use Rattle.vt_location.specs.declared.numbers.MountId.{MountId}
use Rattle.vt_group.specs.declared.set.Set.{Set}
use Rattle.vt_group.specs.declared.sets.Sets.{Sets}

abbrev pub same_group : GroupId → GroupId → Bool
same_group a b = nat_eq a.count b.count

-- what is in a set
abbrev pub elements : {T : Type 0} → Set T → List T
elements (Set.One only) = option_to_list only
elements (Set.Many many) = items many

abbrev pub kept_in : {T : Type 0} → GroupId → Sets T → List T
kept_in group sets = unwrap_or (option_map elements (lookup (same_group group) sets.sets.entries)) []

abbrev pub has : {T : Type 0} → (T → T → Bool) → GroupId → T → Sets T → Bool
has eq group one sets = list_any (eq one) (kept_in group sets)
