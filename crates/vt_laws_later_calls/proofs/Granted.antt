-- What a granted call of the machine leaves.
use Rattle.std.proofs.Common.{arith, ◌≡◌, refl, sym, ap, ◌∙◌, ℕ, nat_eq, true, false, not, List, [], ◌∷◌, ◌||◌, Option, Some, None, Result, Ok, Err, find, is_ok, map, ok_or, option_map}
use Rattle.vt_spec.proofs.Common.{Answer, Call, Fresh, IsWorld, Judgement, Outcome, Permit, Serves, Task, TaskName, World, after, answer-finished_unless, apply, common_steps, denial, filesystems_changed, filesystems_changed_by, finished, judge_in, looks_of, numbers_raised, only_looks, overfills, policy, raised_task, same_name, settled, task_called}
use Rattle.vt_laws_later_calls.proofs.Common.{Deny, IsGranted, IsPlain, S2, mounts_overlay, names_few_groups, policy_judges_then_applies}
use Rattle.vt_laws_rules.proofs.given.Ways.{calls_are_granted}

-- what a call that was granted, and does not only look, was permitted, and what it left
pub record IsPermitted (world : World ℕ) (fresh : Fresh ℕ) (name : TaskName) (call : Call)
    (answer : Answer) : Type 0 where
  pub task : Task ℕ
  pub called : task_called world name ≡ Some task
  pub permit : Permit ℕ
  pub judged : judge_in nat_eq fresh world task call ≡ Ok permit
  pub granted : IsGranted nat_eq (looks_of nat_eq world) (overfills nat_eq fresh world task) task call permit
  pub answered : (apply nat_eq fresh world task permit).answer ≡ Ok answer
  pub left : (policy nat_eq fresh world name call).world
      ≡ numbers_raised nat_eq world name (filesystems_changed nat_eq world permit)
      (settled nat_eq (apply nat_eq fresh world task permit).world)

-- a call, other than a mount of an overlay, that succeeded in a world of plain filesystems
pub record HasSucceeded (world : World ℕ) (fresh : Fresh ℕ) (name : TaskName) (call : Call)
    (answer : Answer) : Type 0 where
  pub is : IsWorld nat_eq world
  pub plain : IsPlain world
  pub serves : Serves nat_eq world fresh
  pub other : mounts_overlay call ≡ false
  pub few : names_few_groups call ≡ true
  pub did : IsPermitted world fresh name call answer

module _ (world : World ℕ) (fresh : Fresh ℕ) (name : TaskName) (call : Call) (answer : Answer)
    (changes : only_looks call ≡ false) where
  abbrev spent : Task ℕ → Judgement ℕ → Outcome ℕ
  spent task judgement = after world judgement (apply nat_eq fresh world task)

  abbrev done_by : Task ℕ → Judgement ℕ → Outcome ℕ
  done_by task judgement =
      finished nat_eq world name call (filesystems_changed_by nat_eq world judgement) (spent task judgement)

  abbrev judged_as : Option (Task ℕ) → Outcome ℕ
  judged_as o = after world (ok_or o (denial S2)) (λ task. done_by task (judge_in nat_eq fresh world task call))

  same_answer : (task : Task ℕ) (judgement : Judgement ℕ) → (done_by task judgement).answer ≡ Ok answer
      → (spent task judgement).answer ≡ Ok answer
  same_answer task judgement e =
      sym (answer-finished_unless (only_looks call || not (is_ok (spent task judgement).answer)) world name
      (filesystems_changed_by nat_eq world judgement) (spent task judgement)) ∙ e

  of_judgement : (task : Task ℕ) → task_called world name ≡ Some task
      → (judgement : Judgement ℕ) → judge_in nat_eq fresh world task call ≡ judgement
      → (done_by task judgement).answer ≡ Ok answer → IsPermitted world fresh name call answer
  of_judgement task e (Err deny) f g = refused (same_answer task (Err deny) g)
    where
      refused : Path (Result Answer Deny) (Err deny) (Ok answer) → IsPermitted world fresh name call answer
      refused h = cc
  of_judgement task e (Ok permit) f g = record {
    task = task;
    called = e;
    permit = permit;
    judged = f;
    granted = calls_are_granted nat_eq (looks_of nat_eq world) (overfills nat_eq fresh world task) task call permit f;
    answered = same_answer task (Ok permit) g;
    left = cc (policy_judges_then_applies fresh world name call, same_answer task (Ok permit) g);
  }

  of_task : (o : Option (Task ℕ)) → task_called world name ≡ o → (judged_as o).answer ≡ Ok answer
      → IsPermitted world fresh name call answer
  of_task None e g = cc
  of_task (Some task) e g = of_judgement task e (judge_in nat_eq fresh world task call) refl g

  pub permitted : (policy nat_eq fresh world name call).answer ≡ Ok answer → IsPermitted world fresh name call answer
  permitted granted = of_task (task_called world name) refl
      (sym (ap (λ (o : Outcome ℕ). o.answer) (policy_judges_then_applies fresh world name call)) ∙ granted)

abbrev pub has_succeeded : {world : World ℕ} {fresh : Fresh ℕ} {name : TaskName} {call : Call} {answer : Answer}
    → IsWorld nat_eq world → IsPlain world → Serves nat_eq world fresh → only_looks call ≡ false
    → mounts_overlay call ≡ false → names_few_groups call ≡ true
    → (policy nat_eq fresh world name call).answer ≡ Ok answer → HasSucceeded world fresh name call answer
has_succeeded {world} {fresh} {name} {call} {answer} is plain serves changes other few granted = record {
  is = is;
  plain = plain;
  serves = serves;
  other = other;
  few = few;
  did = permitted world fresh name call answer changes granted;
}

-- a task is there by its name, its change number raised or not
pub called_raised : (name reader : TaskName) (task : Task ℕ) (tasks : List (Task ℕ))
    → find (λ (t : Task ℕ). same_name reader t.name) tasks ≡ Some task
    → find (λ (t : Task ℕ). same_name reader t.name) (map (raised_task name) tasks) ≡ Some (raised_task name task)
called_raised name reader task tasks e = cc (found_raised tasks)
  where
    same : (t : Task ℕ) → same_name reader (raised_task name t).name ≡ same_name reader t.name
    same t = grind (arith, common_steps)

    found_raised : (list : List (Task ℕ)) → find (λ (t : Task ℕ). same_name reader t.name) (map (raised_task name) list)
        ≡ option_map (raised_task name) (find (λ (t : Task ℕ). same_name reader t.name) list)
    found_raised [] = refl
    found_raised (t ∷ list) = grind (arith, common_steps, same, found_raised list)
