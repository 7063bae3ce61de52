-- What holds of a world, and of what each granted call leaves when what nothing uses is gone and the numbers that it
-- raises are raised, holds of what the policy leaves.
use Rattle.std.proofs.Common.{◌≡◌, refl, sym, ap, subst, ◌∙◌, ℕ, nat_eq, Bool, true, false, List, ◌||◌, not, Some, Result, Ok, Err, is_ok, true≢false, arith}
use Rattle.vt_spec.proofs.Common.{Answer, Call, Fresh, Outcome, Permit, Task, TaskName, World, after, apply, call_outcome, common_steps, filesystems_changed, filesystems_changed_by, finished, finished_unless, judge_in, not-true, numbers_raised, only_looks, or_parts, policy, settled, task_called}
use Rattle.vt_laws_worlds.proofs.worlds.CallsKept.{name_found}
use Rattle.vt_spec.specs.declared.errors.Deny.{Deny}
use Rattle.vt_laws_rules.proofs.judged.CallsJudged.{call_is_judged_then_applied}
use Rattle.vt_laws_rules.proofs.rules.OwnRules.{denial_changes_nothing}
use Rattle.vt_laws_rules.proofs.denials.Unchanged.{look_changes_nothing}

module _ (Holds : World ℕ → Type 0) (world : World ℕ) (fresh : Fresh ℕ) (name : TaskName) (call : Call)
    (is : Holds world) where
  abbrev Left : Type 0
  Left = Holds (policy nat_eq fresh world name call).world

  -- what a granted call leaves
  abbrev pub left_by : Task ℕ → Permit ℕ → World ℕ
  left_by task permit = numbers_raised nat_eq world name (filesystems_changed nat_eq world permit)
      (settled nat_eq (apply nat_eq fresh world task permit).world)

  stays : (policy nat_eq fresh world name call).world ≡ world → Left
  stays same = subst Holds (sym same) is

  refused : (answer : Result Answer Deny) → (policy nat_eq fresh world name call).answer ≡ answer → is_ok answer ≡ false
      → Left
  refused (Ok a) e denied = cc
  refused (Err deny) e denied = stays (denial_changes_nothing fresh world name call deny e)

  called_leaves : (task : Task ℕ) → task_called world name ≡ Some task
      → ((permit : Permit ℕ) → judge_in nat_eq fresh world task call ≡ Ok permit → Holds (left_by task permit)) → Left
  called_leaves task found granted = by _ refl
    where
      changed : List ℕ
      changed = filesystems_changed_by nat_eq world (judge_in nat_eq fresh world task call)

      outcome : Outcome ℕ
      outcome = call_outcome nat_eq fresh world task call

      it_is : policy nat_eq fresh world name call ≡ finished nat_eq world name call changed outcome
      it_is = grind (arith, common_steps)

      by : (b : Bool) → (only_looks call || not (is_ok outcome.answer)) ≡ b → Left
      by true e = grind (arith, common_steps, it_is, stays, look_changes_nothing, refused, not-true)
      by false e = grind (arith, common_steps, it_is, true≢false, call_is_judged_then_applied, or_parts)

  pub named_leaves : ((task : Task ℕ) → task_called world name ≡ Some task → (permit : Permit ℕ)
      → judge_in nat_eq fresh world task call ≡ Ok permit → Holds (left_by task permit)) → Left
  named_leaves granted = grind (arith, common_steps, stays, called_leaves)

  -- whatever filesystems are said to have changed
  pub named_leads : ((task : Task ℕ) → task_called world name ≡ Some task → (permit : Permit ℕ) (changed : List ℕ)
      → judge_in nat_eq fresh world task call ≡ Ok permit
      → Holds (finished_unless nat_eq false world name changed (call_outcome nat_eq fresh world task call)).world) → Left
  named_leads granted = named_leaves (λ task found permit judged. subst (λ outcome.
      Holds (finished_unless nat_eq false world name (filesystems_changed nat_eq world permit) outcome).world)
      (call_is_judged_then_applied fresh world task call
      ∙ ap (λ j. after world j (apply nat_eq fresh world task)) judged)
      (granted task found permit (filesystems_changed nat_eq world permit) judged))

  pub policy_leads : ((task : Task ℕ) (permit : Permit ℕ) (changed : List ℕ) → task_called world task.name ≡ Some task
      → judge_in nat_eq fresh world task call ≡ Ok permit
      → Holds (finished_unless nat_eq false world name changed (call_outcome nat_eq fresh world task call)).world) → Left
  policy_leads granted = named_leads (λ task found permit changed.
      granted task permit changed (cc (name_found world name task found)))
