-- What is listed under a key.
use Rattle.std.specs.Prelude.{Bool, List, [], if◌then◌else◌, length, nat_eq, option_map, unwrap_or, ℕ, ◌+◌, ◌∷◌, ◌≤◌}
use Rattle.std.specs.Map.{lookup}
use Rattle.vt_location.specs.declared.numbers.MountId.{MountId}
use Rattle.vt_location.specs.declared.numbers.NamespaceId.{NamespaceId}
use Rattle.std.specs.declared.cmp.PartialEq as equal
use Rattle.vt_location.specs.Numbers.{same_id}
use Rattle.vt_mount.specs.declared.ascending.Ordered as ordered
use Rattle.vt_mount.specs.declared.lists.ListsBy.{ListsBy}
use Rattle.vt_mount.specs.Rising.{held}
pub use Rattle.vt_mount.specs.Rising.{inserted, precedes}

abbrev pub listed : {K T : Type 0} {o : ordered.Ghosts T} {e : equal.Ghosts T} → (K → K → Bool) → K → ListsBy K T o e → List T
listed eq key lists = unwrap_or (option_map (λ list. held list.one list.many) (lookup (eq key) lists.lists.entries)) []

-- for how many more under a key there is room
abbrev pub reserved : {K T : Type 0} {o : ordered.Ghosts T} {e : equal.Ghosts T} → (K → K → Bool) → K → ListsBy K T o e → ℕ
reserved eq key lists = unwrap_or (option_map (λ list. list.reserved) (lookup (eq key) lists.lists.entries)) 0

abbrev pub same_namespace : NamespaceId → NamespaceId → Bool
same_namespace a b = nat_eq a.count b.count

-- no namespace has more mounts than so many
abbrev pub NoneHasMore : {o : ordered.Ghosts MountId} {e : equal.Ghosts MountId} → ListsBy NamespaceId MountId o e → ℕ
    → Type 0
NoneHasMore lists most = (namespace : NamespaceId) → length (listed same_namespace namespace lists) ≤ most

-- how many of them pass a test
abbrev pub count_of : {X : Type 0} → (X → Bool) → List X → ℕ
count_of test [] = 0
count_of test (x ∷ xs) = if test x then count_of test xs + 1 else count_of test xs
