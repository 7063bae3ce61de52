-- A call of theirs by a task that is there, with numbers that serve.
use Rattle.std.proofs.Common.{◌≡◌, ℕ, nat_eq, true, List, Some}
use Rattle.vt_spec.proofs.Common.{Call, Fresh, Serves, Task, TaskName, World, task_called}
use Rattle.vt_laws_containers.proofs.Common.{IsCallOfTheirs, names_few_groups}

pub record IsServedCall (world : World ℕ) (names : List TaskName) (name : TaskName) (call : Call) (fresh : Fresh ℕ)
    (task : Task ℕ) : Type 0 where
  pub it : IsCallOfTheirs world names name call
  pub open it use {is, sealed_off, theirs, among_them}
  pub few : names_few_groups call ≡ true
  pub serves : Serves nat_eq world fresh
  pub called : task_called world name ≡ Some task
