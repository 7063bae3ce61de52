-- How a call ends by its judgement.
use Rattle.std.proofs.Common.{arith, ◌≡◌, ℕ, nat_eq, Some, Err}
use Rattle.vt_spec.proofs.Common.{Call, Fresh, Judgement, Outcome, Task, TaskName, World, after, apply, common_steps, denied, filesystems_changed_by, finished, judge_in, policy, task_called}
use Rattle.vt_laws_later_calls.proofs.Common.{Deny, policy_judges_then_applies}

module _ (world : World ℕ) (fresh : Fresh ℕ) (name : TaskName) {task : Task ℕ} (call : Call)
    (called : task_called world name ≡ Some task) where
  -- a call of a task by its judgement
  abbrev pub outcome_by : Judgement ℕ → Outcome ℕ
  outcome_by judgement = finished nat_eq world name call (filesystems_changed_by nat_eq world judgement)
      (after world judgement (apply nat_eq fresh world task))

  -- the policy's outcome is that of the judgement
  pub policy_by_judgement : (judgement : Judgement ℕ) → judge_in nat_eq fresh world task call ≡ judgement
      → policy nat_eq fresh world name call ≡ outcome_by judgement
  policy_by_judgement judgement judged = grind (arith, common_steps, policy_judges_then_applies)

  -- a refused call changes nothing
  pub refused_call : (deny : Deny) → judge_in nat_eq fresh world task call ≡ Err deny
      → policy nat_eq fresh world name call ≡ denied world deny
  refused_call deny judged = grind (arith, common_steps, policy_by_judgement)
