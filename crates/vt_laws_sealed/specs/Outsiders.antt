-- What a call of a task outside a sealed set leaves of the set (profile).
use Rattle.std.specs.Prelude.{Bool, Contains, List, [], false, is_some, nat_eq, true, ℕ, ⊤, ◌≡◌, ◌∷◌}
use Rattle.std.specs.List.{list_all}
use Rattle.vt_spec.specs.Language.Calls.{Call, TaskName, same_name}
use Rattle.vt_spec.specs.Language.Calls.Call.{Setns}
use Rattle.vt_spec.specs.Lists.{Fresh, is_among}
use Rattle.vt_spec.specs.Machine.Invariants.{IsWorld}
use Rattle.vt_spec.specs.Machine.Policy.{policy}
use Rattle.vt_spec.specs.Machine.Run.{Serves}
use Rattle.vt_spec.specs.Machine.Sealed.{part_of, sealed, used_alone}
use Rattle.vt_spec.specs.Machine.World.{Filesystem, World, task_called}
use Rattle.vt_laws_trees.specs.Trees.Limits.{names_few_groups}

-- each name of the set is the name of a task
abbrev pub are_all_called : World ℕ → List TaskName → Bool
are_all_called world names = list_all (λ member. is_some (task_called world member)) names

-- a call of a task outside a sealed set, by numbers that are not in use, that enters no namespace of theirs
pub record IsOutsidersCall (world : World ℕ) (fresh : Fresh ℕ) (names : List TaskName) (name : TaskName)
    (call : Call) : Type 0 where
  pub is : IsWorld nat_eq world
  pub sealed_off : sealed nat_eq world names ≡ true
  -- a name without a task could be that of a child of another task
  pub there : are_all_called world names ≡ true
  pub outside : is_among same_name name names ≡ false
  pub apart : (member : TaskName) → call ≡ Setns member → is_among same_name member names ≡ false
  pub serves : Serves nat_eq world fresh
  pub few_groups : names_few_groups call ≡ true

-- the set is sealed off, its part is as it was, and others have no foothold on a filesystem where they had none
pub record LeavesItSealed (world later : World ℕ) (names : List TaskName) : Type 0 where
  pub sealed_off : sealed nat_eq later names ≡ true
  pub part : part_of nat_eq later names ≡ part_of nat_eq world names
  pub no_more : (filesystem : Filesystem ℕ) → Contains world.filesystems filesystem
      → used_alone nat_eq world names filesystem.number ≡ true → used_alone nat_eq later names filesystem.number ≡ true

-- So does each call of an outsider.
abbrev pub OutsidersLeaveASealedSet : Type 0
OutsidersLeaveASealedSet =
    (world : World ℕ) (fresh : Fresh ℕ) (names : List TaskName) (name : TaskName) (call : Call)
    → IsOutsidersCall world fresh names name call
    → LeavesItSealed world (policy nat_eq fresh world name call).world names

-- Calls of outsiders, one after the other

-- a call of a task, with the numbers that are handed in for it
pub record OneCall : Type 0 where
  pub fresh : Fresh ℕ
  pub name : TaskName
  pub call : Call

-- the world that these calls leave
abbrev pub after_calls : World ℕ → List OneCall → World ℕ
after_calls world [] = world
after_calls world (one ∷ rest) = after_calls (policy nat_eq one.fresh world one.name one.call).world rest

-- it is a call of a task outside the set, by numbers that are not in use, that enters no namespace of theirs
pub record IsOutsiders (world : World ℕ) (names : List TaskName) (one : OneCall) : Type 0 where
  pub outside : is_among same_name one.name names ≡ false
  pub apart : (member : TaskName) → one.call ≡ Setns member → is_among same_name member names ≡ false
  pub serves : Serves nat_eq world one.fresh
  pub few_groups : names_few_groups one.call ≡ true

-- so is each of these calls, in the world that those before it leave
abbrev pub AreOutsiders : World ℕ → List TaskName → List OneCall → Type 0
AreOutsiders world names [] = ⊤
AreOutsiders world names (one ∷ rest) =
    IsOutsiders world names one
    × AreOutsiders (policy nat_eq one.fresh world one.name one.call).world names rest

-- However many there are, they leave it sealed off and its part as it was.
abbrev pub OutsidersLeaveItSealedInTurn : Type 0
OutsidersLeaveItSealedInTurn =
    (world : World ℕ) (names : List TaskName) (calls : List OneCall) → IsWorld nat_eq world
    → sealed nat_eq world names ≡ true → are_all_called world names ≡ true → AreOutsiders world names calls
    → (sealed nat_eq (after_calls world calls) names ≡ true)
    × (part_of nat_eq (after_calls world calls) names ≡ part_of nat_eq world names)
