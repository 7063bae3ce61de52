-- A call of a task outside a sealed set, by the task that makes it.
use Rattle.std.proofs.Common.{◌≡◌, ℕ, List, Some}
use Rattle.vt_spec.proofs.Common.{Call, Fresh, Task, TaskName, World, task_called}
use Rattle.vt_laws_sealed.specs.Part.Seals.{IsApart}
use Rattle.vt_laws_sealed.proofs.part.seals.ByPart.{apart_if_sealed, sealed_by}
use Rattle.vt_laws_sealed.specs.Outsiders.{IsOutsidersCall}

pub record IsOthersCall (world : World ℕ) (fresh : Fresh ℕ) (names : List TaskName) (name : TaskName) (call : Call)
    (task : Task ℕ) : Type 0 where
  pub it : IsOutsidersCall world fresh names name call
  pub open it use {is, sealed_off, there, outside, apart, serves, few_groups}
  pub called : task_called world name ≡ Some task

-- the set is apart
pub apart_from : {world : World ℕ} {fresh : Fresh ℕ} {names : List TaskName} {name : TaskName} {call : Call}
    → IsOutsidersCall world fresh names name call → IsApart world names
apart_from outsider = apart_if_sealed (sealed_by outsider.is outsider.sealed_off)
