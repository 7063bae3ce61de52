-- Where the mounts and the groups of an attachment stand.
use Rattle.std.specs.Prelude.{IfSome, List, Option, map, nat_eq, ℕ, ◌≡◌}
use Rattle.std.specs.HashMap.{get}
use Rattle.vt_spec.specs.Lists.{index_from}
use Rattle.vt_spec.specs.Machine.Mounts.{Mount}
use Rattle.vt_spec.specs.Machine.Receives.{is_member_of}
use Rattle.vt_location.specs.declared.numbers.GroupId.{GroupId}
use Rattle.vt_location.specs.declared.numbers.MountId.{MountId}
use Rattle.vt_location.specs.MountValue.{mount_of}
use Rattle.vt_location.specs.Numbers.{counted, same_id}
use Rattle.vt_propagate.specs.declared.copying.Graft.{Graft}
use Rattle.vt_propagate.specs.declared.indexes.Indexes.{Indexes}
use Rattle.vt_group.specs.Sets.{same_group}

-- where the first mount with a number stands, and the first in a group
abbrev pub place_of : List (Mount ℕ) → ℕ → Option ℕ
place_of mounts number = index_from (λ mount. nat_eq number mount.number) 0 mounts

abbrev pub place_of_group : List (Mount ℕ) → ℕ → Option ℕ
place_of_group mounts group = index_from (is_member_of nat_eq group) 0 mounts

-- these are the indexes of a graft, where any are noted
pub record IsIndexed (indexes : Indexes) (graft : Graft) : Type 0 where
  pub parts : IfSome indexes.parts (λ places. (id : MountId)
      → get same_id places id ≡ place_of (map mount_of graft.parts.now) (counted id.count))
  pub tree : IfSome indexes.tree (λ places. (id : MountId)
      → get same_id places id ≡ place_of (map mount_of graft.tree.now) (counted id.count))
  pub groups : IfSome indexes.groups (λ places. (group : GroupId)
      → get same_group places group ≡ place_of_group (map mount_of graft.parts.now) (counted group.count))
