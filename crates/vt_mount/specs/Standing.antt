-- What stands on an inode: mounts, by the mounts that they stand on.
use Rattle.std.specs.Prelude.{Bool, List, None, Option, Some, filter, if◌then◌else◌, map, slice_get, ◌&&◌, ◌||◌}
use Rattle.vt_location.specs.Numbers.{same_id}
use Rattle.vt_location.specs.declared.numbers.MountId.{MountId}
use Rattle.vt_mount.specs.declared.standing.Standing.{Standing}
use Rattle.vt_mount.specs.Rising.{precedes}

abbrev pub same_standing : Standing → Standing → Bool
same_standing a b = same_id a.parent b.parent && same_id a.mount b.mount

-- in the order of the mounts that they stand on, and then of their own numbers
abbrev pub stands_before : Standing → Standing → Bool
stands_before a b = precedes a.parent b.parent || (same_id a.parent b.parent && precedes a.mount b.mount)

-- the mount of one, if it stands on this one
abbrev pub upon : MountId → Standing → Option MountId
upon parent one = if same_id one.parent parent then Some one.mount else None

-- the mounts of a list that stand on a mount
abbrev pub listed_upon : MountId → List Standing → List MountId
listed_upon parent list = map (λ (one : Standing). one.mount) (filter (λ one. same_id one.parent parent) list)

abbrev pub first_listed : MountId → List Standing → Option MountId
first_listed parent list = slice_get (listed_upon parent list) 0
