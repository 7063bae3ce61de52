-- A call of theirs that is refused leaves their part, and is refused alike.
use Rattle.std.proofs.Common.{inl, inr, arith, ◌≡◌, refl, sym, ap, ◌∙◌, ℕ, nat_eq, Bool, true, false, true≢false, not, List, Option, Some, None, Ok, Err, ◌||◌, is_ok}
use Rattle.vt_spec.proofs.Common.{Call, Fresh, Judgement, Outcome, Permit, Task, TaskName, World, after, apply, common_steps, contains_from_among, denied, filesystems_changed_by, finished, finished_unless, judge_in, members, only_looks, part_of, policy, task_called}
use Rattle.vt_laws_members.proofs.Common.{cases_Option, Deny}
use Rattle.vt_laws_members.proofs.judging.Common.{caller_in, members_are_judged_by_their_part, sealing_of}
use Rattle.vt_laws_members.specs.Changes.Changes.{DenialsEndAlike, EndAlike, EndsAlike, IsCallOfTheirs, grown}
use Rattle.vt_laws_members.proofs.changes.looks.Told.{ended_alike, ran, same_caller}
use Rattle.vt_laws_members.proofs.changes.part.PartAgain.{part_again}

-- what is permitted is answered
applied_ok : (fresh : Fresh ℕ) (world : World ℕ) (task : Task ℕ) (permit : Permit ℕ)
    → is_ok (apply nat_eq fresh world task permit).answer ≡ true
applied_ok fresh world task permit = grind (arith, common_steps)

-- a call by its judgement
module _ {world : World ℕ} {names : List TaskName} {name : TaskName} {call : Call}
    (it : IsCallOfTheirs world names name call) where
  abbrev pub run_by : World ℕ → Fresh ℕ → Task ℕ → Judgement ℕ → Outcome ℕ
  run_by w supply task j =
      finished nat_eq w name call (filesystems_changed_by nat_eq w j) (after w j (apply nat_eq supply w task))

module _ {world : World ℕ} {names : List TaskName} {name : TaskName} {call : Call}
    (it : IsCallOfTheirs world names name call) (fresh other : Fresh ℕ) where
  abbrev part : World ℕ
  part = part_of nat_eq world names

  -- the two runs, by the task that is found
  pub by_runs : (found : Option (Task ℕ)) → task_called world name ≡ found
      → EndAlike (grown names name call (ran name call world fresh found).answer) (ran name call world fresh found)
      (ran name call part other found) → EndsAlike world names name call fresh other
  by_runs found e alike = ended_alike names name call (cc) (cc (same_caller (sealing_of it) name it.theirs)) alike

  pub unnamed_ends_alike : task_called world name ≡ None → EndsAlike world names name call fresh other
  unnamed_ends_alike e = by_runs None e (record { answer = refl; part = sym (part_again world names it.is) })

  -- the judgement is the same
  pub same_judgement : (task : Task ℕ) → task_called world name ≡ Some task
      → judge_in nat_eq fresh world task call ≡ judge_in nat_eq other part task call
  same_judgement task e = members_are_judged_by_their_part world names task call (record {
    is = it.is;
    sealed_off = it.sealed_off;
    member = contains_from_among (members world names) task
        (caller_in it e).among;
    among_them = it.among_them;
  }) fresh other

  pub ran_there : (task : Task ℕ) → task_called world name ≡ Some task → {j : Judgement ℕ}
      → judge_in nat_eq fresh world task call ≡ j → ran name call part other (Some task) ≡ run_by it part other task j
  ran_there task e judged = cc (same_judgement task e, judged)

  -- a refusal is the end
  refused_by : (w : World ℕ) (supply : Fresh ℕ) (task : Task ℕ) (deny : Deny)
      → run_by it w supply task (Err deny) ≡ denied w deny
  refused_by w supply task deny = grind (arith, common_steps)

  answer_kept : (w : World ℕ) (supply : Fresh ℕ) (task : Task ℕ) (j : Judgement ℕ)
      → (run_by it w supply task j).answer ≡ (after w j (apply nat_eq supply w task)).answer
  answer_kept w supply task j = by (only_looks call || not (is_ok (after w j (apply nat_eq supply w task)).answer))
    where
      by : (b : Bool) → (finished_unless nat_eq b w name (filesystems_changed_by nat_eq w j)
          (after w j (apply nat_eq supply w task))).answer ≡ (after w j (apply nat_eq supply w task)).answer
      by true = refl
      by false = refl

  pub denial_ends_alike : is_ok (policy nat_eq fresh world name call).answer ≡ false
      → EndsAlike world names name call fresh other
  denial_ends_alike refused = elim (cases_Option (task_called world name)) [
    | inl e ↦ unnamed_ends_alike e
    | inr its ↦ judged its.0 its.1 (judge_in nat_eq fresh world its.0 call) refl
  ]
    where
      judged : (task : Task ℕ) → task_called world name ≡ Some task → (j : Judgement ℕ)
          → judge_in nat_eq fresh world task call ≡ j → EndsAlike world names name call fresh other
      judged task e (Ok permit) same = absurd (true≢false (sym (applied_ok fresh world task permit)
          ∙ sym (ap is_ok (answer_kept world fresh task (Ok permit)))
          ∙ sym (ap (λ j. is_ok (run_by it world fresh task j).answer) same)
          ∙ sym (ap (λ o. is_ok (ran name call world fresh o).answer) e) ∙ refused))
      judged task e (Err deny) same = by_runs (Some task) e
          (ended_alike names name call (ap (run_by it world fresh task) same ∙ refused_by world fresh task deny)
          (ap (run_by it part other task) (sym (same_judgement task e) ∙ same) ∙ refused_by part other task deny)
          (record { answer = refl; part = sym (part_again world names it.is) }))

pub denials_end_alike : DenialsEndAlike
denials_end_alike world names name call it fresh other refused =
    denial_ends_alike it fresh other refused
