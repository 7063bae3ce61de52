-- Mounts in no namespace, and those that a task stands on, after calls of others (profile).
use Rattle.std.specs.Prelude.{List, None, Some, nat_eq, true, ℕ, ◌≡◌}
use Rattle.vt_spec.specs.Language.Calls.{Call, TaskName}
use Rattle.vt_spec.specs.Lists.{Fresh}
use Rattle.vt_spec.specs.Machine.Invariants.{IsWorld}
use Rattle.vt_spec.specs.Machine.Policy.{policy}
use Rattle.vt_spec.specs.Machine.World.{Task, World, mount_at, mount_numbered, task_called}
use Rattle.vt_laws_mounts.specs.Mounts.Attaching.{is_mount}
use Rattle.vt_laws_turns.specs.Frames.InTurn.{AreBeside, AreOfOthers, CallBetween, after_calls}
use Rattle.vt_laws_turns.specs.Frames.Unraised.{IsCallIn, IsNamespaceUnraised}

-- A mount in no namespace that a call leaves has the record that it had.
abbrev pub DetachedMountsStay : Type 0
DetachedMountsStay =
    (world : World ℕ) (fresh : Fresh ℕ) (name : TaskName) (call : Call) (number : ℕ) → IsCallIn world fresh
    → is_mount world number ≡ true → (mount_numbered nat_eq world number).namespace ≡ None
    → is_mount (policy nat_eq fresh world name call).world number ≡ true
    → mount_numbered nat_eq (policy nat_eq fresh world name call).world number ≡ mount_numbered nat_eq world number

-- a task stands on the mounts that it stood on, each the same record
pub record StandsWhereItStood (world later : World ℕ) (task : Task ℕ) : Type 0 where
  pub root : mount_at nat_eq later task.root ≡ mount_at nat_eq world task.root
  pub directory : mount_at nat_eq later task.directory ≡ mount_at nat_eq world task.directory

-- So does a task of an unraised namespace that made none of several calls.
abbrev pub OtherTasksStandInTurn : Type 0
OtherTasksStandInTurn =
    (world : World ℕ) (calls : List CallBetween) (other : TaskName) (task : Task ℕ) → IsWorld nat_eq world
    → AreBeside task.namespace world calls → AreOfOthers other calls → task_called world other ≡ Some task
    → IsNamespaceUnraised world (after_calls world calls) task.namespace
    → StandsWhereItStood world (after_calls world calls) task
