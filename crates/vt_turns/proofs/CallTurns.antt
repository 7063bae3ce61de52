-- The turn of a call, by what is left of it.
use Rattle.std.proofs.Common.{◌≡◌, refl, sym, ap, subst, ◌∙◌, ℕ, ◌+◌, nat_eq, nat_le, Bool, true, false, if◌then◌else◌, List, [], ◌∷◌, Option, Some, None, Ok, is_ok, option_map, slice_get}
use Rattle.vt_spec.proofs.Common.{Call, Fresh, Progress, Route, Rules, Sched, Task, TaskName, Turned, call_turn, call_turn_of, entry_rules, first_turn, first_turn_by, found_passes, further, is_failing, is_overtaken, later_turn, looks_of, most_restarts, next_word, one_further, restarted, routes, same_name, same_task_name, task_called, turn_under_way, unless, word_walked_by, words_of}
use Rattle.vt_spec.specs.Lists.{holds_of, then_some}
use Rattle.vt_spec.specs.Machine.Turns.{run_whole, without_progress}
use Rattle.vt_turns.specs.Going.{again_in, begins_by, begun, first_in, found_under_way, further_in, gone_on_in, met_on, numbers_of, walked_in}
use Rattle.vt_turns.specs.declared.progress.Numbers.{Numbers}

module _ (sched : Sched ℕ) (name : TaskName) where
  -- the call goes on so
  abbrev pub goes_on : Progress ℕ → TaskName → Turned ℕ
  goes_on progress of = record {
    sched = record sched { under_way = progress ∷ without_progress of sched.under_way };
    reply = None;
  }

  -- a call of which this is left, or nothing, where it is run whole
  abbrev pub turned_by : ℕ → Call → Fresh ℕ → Option (Progress ℕ) → Turned ℕ
  turned_by line call fresh None = run_whole nat_eq sched name line call fresh
  turned_by line call fresh (Some progress) = goes_on progress name

module _ (sched : Sched ℕ) (task : Task ℕ) (line : ℕ) (call : Call) (fresh : Fresh ℕ)
    (there : task_called sched.world task.name ≡ Some task) where
  abbrev ways : List (Route ℕ)
  ways = routes nat_eq (looks_of nat_eq sched.world) task call

  abbrev numbers : Numbers
  numbers = numbers_of sched.world task

  abbrev turned : Option (Progress ℕ) → Turned ℕ
  turned next = turned_by sched task.name line call fresh next

  abbrev with_met : Progress ℕ → Option (List ℕ) → Option (Progress ℕ)
  with_met before met = option_map (λ m. one_further nat_eq sched.world m before) met

  by_fails : (fails : Bool) (before : Progress ℕ) (met : List ℕ) → before.task ≡ task.name
      → word_walked_by nat_eq fails sched line call fresh before met
      ≡ turned (with_met before (if fails then None else Some met))
  by_fails true before met e = ap (λ n. run_whole nat_eq sched n line call fresh) e
  by_fails false before met e = ap (goes_on sched task.name (one_further nat_eq sched.world met before)) e

  none_left : (fails : Bool) (before : Progress ℕ) → with_met before (if fails then None else None) ≡ None
  none_left true before = refl
  none_left false before = refl

  by_word : (word : Option (List ℕ)) (before : Progress ℕ) → before.task ≡ task.name
      → next_word nat_eq sched line call fresh before ways word
      ≡ turned (with_met before (if is_failing ways before.walked then None else word))
  by_word None before e = ap (λ n. run_whole nat_eq sched n line call fresh) e
      ∙ sym (ap turned (none_left (is_failing ways before.walked) before))
  by_word (Some met) before e = by_fails (is_failing ways before.walked) before met e

  further_is : (before : Progress ℕ) → before.task ≡ task.name
      → further nat_eq sched task line call fresh before ≡ turned (further_in sched.world call before)
  further_is before e = by_word (slice_get (words_of ways) before.walked) before e
      ∙ ap (λ (found : Option (Task ℕ)). turned (with_met before (then_some found
      (λ t. met_on (routes nat_eq (looks_of nat_eq sched.world) t call) before.walked))))
      (sym (ap (task_called sched.world) e ∙ there))

  first_by : (rules : Rules) (restarts : ℕ)
      → first_turn_by nat_eq (unless rules (Ok call)) sched task line call fresh restarts
      ≡ turned (if is_ok (unless rules (Ok call)) then further_in sched.world call (begun task.name numbers restarts)
      else None)
  first_by [] restarts = further_is (begun task.name numbers restarts) refl
  first_by ((true, rule) ∷ rows) restarts = refl
  first_by ((false, rule) ∷ rows) restarts = first_by rows restarts

  first_is : (restarts : ℕ) → first_turn nat_eq sched task line call fresh restarts
      ≡ turned (first_in sched.world call task.name numbers restarts)
  first_is restarts = first_by (entry_rules nat_eq (looks_of nat_eq sched.world) task call) restarts
      ∙ ap (λ (found : Option (Task ℕ)). turned (if holds_of (begins_by sched.world call) found
      then further_in sched.world call (begun task.name numbers restarts) else None)) (sym there)

  restarted_is : (most : Bool) (p : Progress ℕ) → restarted nat_eq most sched task line call fresh p
      ≡ turned (if most then None else first_in sched.world call task.name numbers (p.restarts + 1))
  restarted_is true p = refl
  restarted_is false p = first_is (p.restarts + 1)

  later_is : (stale : Bool) (p : Progress ℕ) → p.task ≡ task.name
      → later_turn nat_eq stale sched task line call fresh p
      ≡ turned (if stale then again_in sched.world call task.name numbers p else further_in sched.world call p)
  later_is true p e = restarted_is (nat_le most_restarts p.restarts) p
  later_is false p e = further_is p e

  under_way_is : (under : Option (Progress ℕ)) → found_under_way sched.under_way task.name ≡ under
      → turn_under_way nat_eq sched task line call fresh under
      ≡ turned (gone_on_in sched.world call task.name numbers under)
  under_way_is None e = first_is 0
  under_way_is (Some p) e = later_is (is_overtaken nat_eq sched.world task p) p (sym (same_task_name task.name p.task
      (found_passes (λ (progress : Progress ℕ). same_name task.name progress.task) sched.under_way p e)))

  whole_is : call_turn_of nat_eq sched task.name line call fresh (Some task)
      ≡ turned (walked_in sched.world task.name call sched.under_way)
  whole_is = under_way_is (found_under_way sched.under_way task.name) refl
      ∙ ap (λ (found : Option (Task ℕ)). turned (then_some (option_map (numbers_of sched.world) found)
      (λ n. gone_on_in sched.world call task.name n (found_under_way sched.under_way task.name)))) (sym there)

-- the turn of a call
pub call_turn_is : (sched : Sched ℕ) (name : TaskName) (line : ℕ) (call : Call) (fresh : Fresh ℕ)
    → call_turn nat_eq sched name line call (Some fresh)
    ≡ turned_by sched name line call fresh (walked_in sched.world name call sched.under_way)
call_turn_is sched name line call fresh = by (task_called sched.world name) refl
  where
    by : (found : Option (Task ℕ)) → task_called sched.world name ≡ found
        → call_turn_of nat_eq sched name line call fresh (task_called sched.world name)
        ≡ turned_by sched name line call fresh (walked_in sched.world name call sched.under_way)
    by None e = ap (call_turn_of nat_eq sched name line call fresh) e
        ∙ ap (λ (found : Option (Task ℕ)). turned_by sched name line call fresh
        (then_some (option_map (numbers_of sched.world) found)
        (λ n. gone_on_in sched.world call name n (found_under_way sched.under_way name)))) (sym e)
    by (Some task) e =
        let same : name ≡ task.name = same_task_name name task.name
        (found_passes (λ (other : Task ℕ). same_name name other.name) sched.world.tasks task e) in
        let there : task_called sched.world task.name ≡ Some task = subst (λ n. task_called sched.world n ≡ Some task) same e in
        ap (call_turn_of nat_eq sched name line call fresh) e
        ∙ subst (λ n. call_turn_of nat_eq sched n line call fresh (Some task)
        ≡ turned_by sched n line call fresh (walked_in sched.world n call sched.under_way)) (sym same)
        (whole_is sched task line call fresh there)
