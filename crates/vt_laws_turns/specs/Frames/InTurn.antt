-- What change numbers tell after several calls, one after the other (profile).
use Rattle.std.specs.Prelude.{List, Some, [], nat_eq, true, ℕ, ⊤, ◌∷◌, ◌≡◌, ◌≢◌}
use Rattle.vt_spec.specs.Language.Calls.{Call, TaskName}
use Rattle.vt_spec.specs.Lists.{Fresh}
use Rattle.vt_spec.specs.Machine.Invariants.{IsWorld}
use Rattle.vt_spec.specs.Machine.Policy.{policy}
use Rattle.vt_spec.specs.Machine.Run.{Serves}
use Rattle.vt_spec.specs.Machine.World.{Task, World, filesystem_numbered, mounts_of, task_called}
use Rattle.vt_laws_trees.specs.Trees.Limits.{names_few_groups}
use Rattle.vt_laws_turns.specs.Frames.Unraised.{IsFilesystemUnraised, IsNamespaceUnraised, KeepsFilesystem}

-- a call of a task, with the numbers that are handed in for it
pub record CallBetween : Type 0 where
  pub fresh : Fresh ℕ
  pub name : TaskName
  pub call : Call

-- the world that a call leaves, and that calls leave, one after the other
abbrev pub after_call : World ℕ → CallBetween → World ℕ
after_call world one = (policy nat_eq one.fresh world one.name one.call).world

abbrev pub after_calls : World ℕ → List CallBetween → World ℕ
after_calls world [] = world
after_calls world (one ∷ rest) = after_calls (after_call world one) rest

-- It is handed numbers that are not in use, none of which is the number whose change number is held: one that is gone
-- could come again.
pub record IsBeside (number : ℕ) (world : World ℕ) (one : CallBetween) : Type 0 where
  pub serves : Serves nat_eq world one.fresh
  pub few_groups : names_few_groups one.call ≡ true
  pub not_held : (k : ℕ) → one.fresh k ≢ number

-- so is each of these calls, in the world that those before it leave
abbrev pub AreBeside : ℕ → World ℕ → List CallBetween → Type 0
AreBeside number world [] = ⊤
AreBeside number world (one ∷ rest) = IsBeside number world one × AreBeside number (after_call world one) rest

-- none of these calls is the task's
abbrev pub AreOfOthers : TaskName → List CallBetween → Type 0
AreOfOthers name [] = ⊤
AreOfOthers name (one ∷ rest) = (name ≢ one.name) × AreOfOthers name rest

-- A namespace whose change number is after several calls what it was has the mounts that it had,
abbrev pub UnraisedNamespacesKeepMountsInTurn : Type 0
UnraisedNamespacesKeepMountsInTurn =
    (world : World ℕ) (calls : List CallBetween) (number : ℕ) → IsWorld nat_eq world
    → AreBeside number world calls → IsNamespaceUnraised world (after_calls world calls) number
    → mounts_of nat_eq (after_calls world calls) number ≡ mounts_of nat_eq world number

-- and a task of it that made none of these calls is what it was.
abbrev pub OtherTasksStayInTurn : Type 0
OtherTasksStayInTurn =
    (world : World ℕ) (calls : List CallBetween) (other : TaskName) (task : Task ℕ) → IsWorld nat_eq world
    → AreBeside task.namespace world calls → AreOfOthers other calls → task_called world other ≡ Some task
    → IsNamespaceUnraised world (after_calls world calls) task.namespace
    → task_called (after_calls world calls) other ≡ Some task

-- A filesystem whose change number is after several calls what it was is what it was, but for what nothing uses.
abbrev pub UnraisedFilesystemsStayInTurn : Type 0
UnraisedFilesystemsStayInTurn =
    (world : World ℕ) (calls : List CallBetween) (number : ℕ) → IsWorld nat_eq world
    → AreBeside number world calls → IsFilesystemUnraised world (after_calls world calls) number
    → KeepsFilesystem (filesystem_numbered nat_eq world number)
    (filesystem_numbered nat_eq (after_calls world calls) number)
