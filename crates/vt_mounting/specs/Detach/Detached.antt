-- Mounts that leave their namespaces one after the other.
use Rattle.std.specs.Prelude.{IfSome, List, None, Option, Some, [], filter, flat_map, map, nat_eq, option_map, true, ℕ, ◌∷◌, ◌≡◌}
use Rattle.vt_spec.specs.Machine.Mounts.{Mount, mount_in, mount_tree}
use Rattle.vt_group.specs.Grouping.{Grouping}
use Rattle.vt_group.specs.Together.{TakesAway}
use Rattle.vt_location.specs.declared.locations.Location.{Location}
use Rattle.vt_location.specs.Locations.{is_small_node, location_of, number_of}
use Rattle.vt_mount.specs.MountsValue.{MountEntry, stands_over}
use Rattle.vt_retype.specs.Retyping.{FollowTypes}
use Rattle.vt_mounting.specs.Detach.Uses.{Kept, point_of, without_attachment}

-- Each in its turn is detached from its mount point, and goes if nothing is on it.
abbrev pub LeaveInTurn : List ℕ → Kept → Kept → Type 0
LeaveInTurn [] k last = last ≡ k
LeaveInTurn (number ∷ rest) k last =
    (point : Option Location) × (option_map location_of point ≡ point_of number k.mounts)
    × IfSome point (λ point. is_small_node point.node ≡ true)
    × LeaveInTurn rest (without_attachment number point k) last

-- They leave their groups at once, too, and then each mount has the type that the groups tell.
pub record LeaveTogether (numbers : List ℕ) (old : Kept) (before : Grouping) (new : Kept)
    (now : Grouping) : Type 0 where
  pub entries : List MountEntry
  pub turn : LeaveInTurn numbers old (record new { mounts = entries })
  pub groups : TakesAway before now numbers
  pub types : FollowTypes before old.mounts now entries new.mounts

-- the numbers of a mount and of all its descendants
abbrev pub tree_numbers : List (Mount ℕ) → ℕ → List ℕ
tree_numbers mounts number = map (λ mount. mount.number) (mount_tree nat_eq mounts (mount_in nat_eq mounts number))

-- the numbers of the mounts on what is replaced, and of all their descendants
abbrev pub trees_of_replaced : List (Mount ℕ) → Option Location → List ℕ
trees_of_replaced mounts None = []
trees_of_replaced mounts (Some other) =
    flat_map (tree_numbers mounts) (map (λ mount. mount.number) (filter (stands_over (number_of other.node)) mounts))
