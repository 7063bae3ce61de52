-- Mounts that come with their groups, while others move: the groups grow by those of the mounts that come.
use Rattle.std.specs.Prelude.{All, Bool, Contains, List, Option, Some, flat_map, is_some, map, nat_eq, true, ℕ, ◌++◌, ◌≡◌, ◌⊎◌}
use Rattle.vt_group.specs.Grouping.{HasGroup, are_rising}
use Rattle.vt_group.specs.Together.{Grows}
use Rattle.vt_spec.specs.Lists.{folded, is_among}
use Rattle.vt_spec.specs.Machine.Attach.{Copies, all_groups_made, copies_at, graft_of, masters_with, parts_of}
use Rattle.vt_spec.specs.Machine.Mounts.{Location, Mount, Propagation, group_of}
use Rattle.vt_spec.specs.Machine.Receives.{has_members}
use Rattle.vt_spec.specs.Machine.World.{World}
use Rattle.vt_laws_mounts.specs.Mounts.Attaching.{numbers_of}

-- a mount's number and its type
abbrev pub type_of : Mount ℕ → ℕ × Propagation ℕ
type_of mount = (mount.number, mount.propagation)

-- The mounts keep their numbers and their types. Others come after them with greater numbers. A group of these is there
-- already or is new, and each new group that has a master has one of them.
pub record ComeAfter (world after : World ℕ) (change : Mount ℕ → Mount ℕ) (copies : List (Mount ℕ))
    (new : List (ℕ × Option ℕ)) : Type 0 where
  pub mounts : after.mounts ≡ map change world.mounts ++ copies
  pub number : (mount : Mount ℕ) → (change mount).number ≡ mount.number
  pub kind : (mount : Mount ℕ) → (change mount).propagation ≡ mount.propagation
  pub order : are_rising (numbers_of (world.mounts ++ copies)) ≡ true
  pub master : (group : ℕ) → after.master group ≡ folded (masters_with nat_eq) world.master new group
  pub begin : All (λ entry. is_some entry.1 ≡ true → has_members nat_eq copies entry.0 ≡ true) new
  pub named : (group : ℕ) → has_members nat_eq copies group ≡ true
      → HasGroup world group ⊎ (is_among nat_eq group (map (λ entry. entry.0) new) ≡ true)

abbrev pub AttachedWorldsGrow : Type 0
AttachedWorldsGrow =
    (world after : World ℕ) (change : Mount ℕ → Mount ℕ) (copies : List (Mount ℕ)) (new : List (ℕ × Option ℕ))
    → ComeAfter world after change copies new → Grows world after (map type_of copies) new

-- the copies of an attachment at all parts, and the groups that they form
abbrev pub all_copies : World ℕ → Copies ℕ → Location ℕ → Bool → List (Mount ℕ) → List (Mount ℕ)
all_copies world new place moves tree =
    flat_map (copies_at nat_eq world new (graft_of nat_eq world new place moves tree) (parts_of nat_eq world place))
    (parts_of nat_eq world place)

abbrev pub groups_formed : World ℕ → Copies ℕ → Location ℕ → Bool → List (Mount ℕ) → List (ℕ × Option ℕ)
groups_formed world new place moves tree =
    all_groups_made nat_eq world new (graft_of nat_eq world new place moves tree) (parts_of nat_eq world place)

-- the group of each shared mount of the tree is there
abbrev pub HasGroupsOf : World ℕ → List (Mount ℕ) → Type 0
HasGroupsOf world tree = (mount : Mount ℕ) → Contains tree mount → (group : ℕ)
    → group_of mount.propagation ≡ Some group → HasGroup world group

-- each new group has a member among the copies, and the group of each copy is there or is new
abbrev pub FormedGroupsBegin : Type 0
FormedGroupsBegin =
    (world : World ℕ) (new : Copies ℕ) (place : Location ℕ) (moves : Bool) (tree : List (Mount ℕ))
    → All (λ entry. has_members nat_eq (all_copies world new place moves tree) entry.0 ≡ true)
    (groups_formed world new place moves tree)

abbrev pub GroupsOfCopiesAreNamed : Type 0
GroupsOfCopiesAreNamed =
    (world : World ℕ) (new : Copies ℕ) (place : Location ℕ) (moves : Bool) (tree : List (Mount ℕ))
    → HasGroupsOf world tree
    → (group : ℕ) → has_members nat_eq (all_copies world new place moves tree) group ≡ true
    → HasGroup world group ⊎ (is_among nat_eq group (map (λ entry. entry.0) (groups_formed world new place moves tree))
    ≡ true)
