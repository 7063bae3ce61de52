-- A call of theirs that ends in the part as in the world if it is granted does so if it is refused.
use Rattle.std.proofs.Common.{inl, inr, ◌≡◌, refl, ap, subst, ◌∙◌, ℕ, nat_eq, true, false, [], List, Some, Ok, Err, ◌||◌, is_ok, IfOk}
use Rattle.vt_spec.proofs.Common.{Call, Fresh, Judgement, Permit, Task, TaskName, World, denied, finished_unless, judge_in, only_looks, task_called}
use Rattle.vt_laws_members.specs.Changes.Changes.{EndsAlike, IsCallOfTheirs}
use Rattle.vt_laws_members.proofs.changes.looks.Told.{ran}
use Rattle.vt_laws_members.proofs.changes.tasks.Denied.{denial_ends_alike, run_by, unnamed_ends_alike}
use Rattle.vt_laws_members.proofs.Common.{cases_Option}

module _ {world : World ℕ} {names : List TaskName} {name : TaskName} {call : Call}
    (it : IsCallOfTheirs world names name call) (fresh other : Fresh ℕ) (looks : only_looks call ≡ false) where
  pub by_permit : ((task : Task ℕ) → task_called world name ≡ Some task → (permit : Permit ℕ)
      → judge_in nat_eq fresh world task call ≡ Ok permit → EndsAlike world names name call fresh other)
      → EndsAlike world names name call fresh other
  by_permit granted_so = elim (cases_Option (task_called world name)) [
    | inl none ↦ unnamed_ends_alike it fresh other none
    | inr its ↦ judged_by its.0 its.1 (judge_in nat_eq fresh world its.0 call) refl
  ]
    where
      judged_by : (task : Task ℕ) → task_called world name ≡ Some task → (j : Judgement ℕ)
          → judge_in nat_eq fresh world task call ≡ j → EndsAlike world names name call fresh other
      judged_by task called (Ok permit) judged = granted_so task called permit judged
      judged_by task called (Err deny) judged = denial_ends_alike it fresh other
          (ap (λ o. is_ok (ran name call world fresh o).answer) called
          ∙ ap (λ j. is_ok (run_by it world fresh task j).answer) judged
          ∙ ap (λ b. is_ok (finished_unless nat_eq (b || true) world name [] (denied world deny)).answer) looks)

  -- the same, with what is known of each permit
  pub by_known : (Known : (task : Task ℕ) → task_called world name ≡ Some task → Permit ℕ → Type 0)
      → ((task : Task ℕ) (called : task_called world name ≡ Some task)
      → IfOk (judge_in nat_eq fresh world task call) (Known task called))
      → ((task : Task ℕ) (called : task_called world name ≡ Some task) (permit : Permit ℕ)
      → judge_in nat_eq fresh world task call ≡ Ok permit → Known task called permit
      → EndsAlike world names name call fresh other) → EndsAlike world names name call fresh other
  by_known Known known granted_so = by_permit (λ task called permit judged.
      granted_so task called permit judged (subst (λ j. IfOk j (Known task called)) judged (known task called)))
