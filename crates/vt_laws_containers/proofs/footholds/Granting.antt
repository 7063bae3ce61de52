-- A call of theirs gives others no foothold, if what it is permitted leaves others as they were.
use Rattle.std.proofs.Common.{arith, ◌≡◌, refl, sym, ap, subst, ◌∙◌, inl, ℕ, nat_eq, true, false, not, true≢false, List, Option, Some, None, Result, Ok, Err, is_ok, IfOk, ◌||◌}
use Rattle.vt_spec.proofs.Common.{Answer, Call, Fresh, IsWorld, Judgement, Outcome, Permit, Serves, Task, TaskName, World, after, answer-finished_unless, apply, common_steps, filesystems_changed, judge_in, locations, members, numbers_raised, only_looks, overfills, policy, same_Some, settled, task_called, filesystems_changed_by}
use Rattle.vt_laws_containers.proofs.Common.{Deny, IsCallOfTheirs, IsSealed, caller_in, every_call_keeps_worlds, grown, is_theirs, left, names_few_groups, ran, sealing_of}
use Rattle.vt_laws_rules.proofs.denials.Unchanged.{look_changes_nothing}
use Rattle.vt_laws_rules.proofs.rules.OwnRules.{denial_changes_nothing}
use Rattle.vt_laws_later_calls.proofs.Granted.{permitted}
use Rattle.vt_laws_members.proofs.changes.looks.Granted.{IsLook, looked}
use Rattle.vt_laws_containers.specs.Footholds.{GivesNoFoothold, LeavesOthersOut}
use Rattle.vt_laws_containers.proofs.footholds.AsBefore.{OthersAsBefore, leaves_others_out}
use Rattle.vt_laws_containers.proofs.footholds.EndsAsBefore.{raised_as_before}
use Rattle.vt_laws_containers.proofs.footholds.TasksAsBefore.{tasks_as_before, tasks_beside}

-- a call that a rule refuses is not answered by an ok
pub denied_is_no_ok : (fresh : Fresh ℕ) (world : World ℕ) (name : TaskName) (call : Call) (task : Task ℕ) (deny : Deny)
    → task_called world name ≡ Some task → judge_in nat_eq fresh world task call ≡ Err deny
    → is_ok (policy nat_eq fresh world name call).answer ≡ false
denied_is_no_ok fresh world name call task deny called judged =
    let ended : Judgement ℕ → Outcome ℕ = λ j. after world j (apply nat_eq fresh world task) in
    ap (λ o. is_ok (ran name call world fresh o).answer) called
    ∙ ap is_ok (answer-finished_unless (only_looks call || not (is_ok (ended (judge_in nat_eq fresh world task call)).answer))
    world name (filesystems_changed_by nat_eq world (judge_in nat_eq fresh world task call))
    (ended (judge_in nat_eq fresh world task call)))
    ∙ ap (λ j. is_ok (ended j).answer) judged

-- the world itself
module _ {world : World ℕ} {names : List TaskName} (sealing : IsSealed world names) where
  pub as_itself : OthersAsBefore world world names names
  as_itself = tasks_as_before names sealing _ _ (tasks_beside world names sealing.is _ (λ f m. inl (f, m, refl, refl)))

module _ {world : World ℕ} {names : List TaskName} {name : TaskName} {call : Call}
    (it : IsCallOfTheirs world names name call) (fresh : Fresh ℕ) where
  abbrev later : World ℕ
  later = (policy nat_eq fresh world name call).world

  abbrev answer_given : Result Answer Deny
  answer_given = (policy nat_eq fresh world name call).answer

  -- what leaves the world leaves others
  pub unchanged_out : later ≡ world → grown names name call answer_given ≡ names
      → GivesNoFoothold world names name call fresh
  unchanged_out same stays = subst (LeavesOthersOut world later names) (sym stays)
      (subst (λ w. LeavesOthersOut world w names names) (sym same) (leaves_others_out it.is
      it.is (as_itself (sealing_of it))))

  pub refused_out : is_ok answer_given ≡ false → GivesNoFoothold world names name call fresh
  refused_out refused = by answer_given refl refused
    where
      by : (answer : Result Answer Deny) → answer_given ≡ answer → is_ok answer ≡ false
          → GivesNoFoothold world names name call fresh
      by (Ok answer) e fails = absurd (true≢false fails)
      by (Err deny) e fails =
          unchanged_out (denial_changes_nothing fresh world name call deny e) (ap (grown names name call) e)

  -- so does a call that a rule refuses
  pub denied_out : (task : Task ℕ) (deny : Deny) → task_called world name ≡ Some task
      → judge_in nat_eq fresh world task call ≡ Err deny → GivesNoFoothold world names name call fresh
  denied_out task deny called judged = refused_out (denied_is_no_ok fresh world name call task deny called judged)

  -- an answer that tells what is there leaves the set
  looks_stay : (task : Task ℕ) → left names name call ≡ names → (permit : Permit ℕ)
      → IsLook (is_theirs world names) (locations (members world names)) permit
      → grown names name call (apply nat_eq fresh world task permit).answer ≡ names
  looks_stay task same permit on = grind (arith, common_steps)

  pub looks_out : only_looks call ≡ true → GivesNoFoothold world names name call fresh
  looks_out looks = unchanged_out (look_changes_nothing fresh world name call looks) stays
    where
      after_stays : (task : Task ℕ) → left names name call ≡ names → (judgement : Judgement ℕ)
          → IfOk judgement (IsLook (is_theirs world names) (locations (members world names)))
          → grown names name call (after world judgement (apply nat_eq fresh world task)).answer ≡ names
      after_stays task same (Ok permit) on = looks_stay task same permit on
      after_stays task same (Err deny) on = refl

      by : (found : Option (Task ℕ)) → task_called world name ≡ found
          → grown names name call (ran name call world fresh found).answer ≡ names
      by None e = refl
      by (Some task) e =
          let judgement : Judgement ℕ = judge_in nat_eq fresh world task call in
          let outcome : Outcome ℕ = after world judgement (apply nat_eq fresh world task) in
          let its = looked (caller_in it e) (overfills nat_eq fresh world task) names name call looks in
          ap (grown names name call) (answer-finished_unless _ world name _ _) ∙ after_stays task its.1 _ its.0

      stays : grown names name call answer_given ≡ names
      stays = by (task_called world name) refl

module _ {world : World ℕ} {names : List TaskName} {name : TaskName} {call : Call}
    (it : IsCallOfTheirs world names name call) (fresh : Fresh ℕ) (serves : Serves nat_eq world fresh)
    (few : names_few_groups call ≡ true) where
  abbrev after_call : World ℕ
  after_call = (policy nat_eq fresh world name call).world

  abbrev its_answer : Result Answer Deny
  its_answer = (policy nat_eq fresh world name call).answer

  after_is : IsWorld nat_eq after_call
  after_is = every_call_keeps_worlds world fresh name call it.is serves few

  -- what a permit leaves is a world, after the sweep and with change numbers raised
  abbrev pub EndsInAWorld : Task ℕ → Permit ℕ → Type 0
  EndsInAWorld task permit = IsWorld nat_eq (numbers_raised nat_eq world name (filesystems_changed nat_eq world permit)
      (settled nat_eq (apply nat_eq fresh world task permit).world))

  -- what a granted call is permitted leaves others as they were, after the sweep
  abbrev pub Permits : Type 0
  Permits = (task : Task ℕ) → task_called world name ≡ Some task → (permit : Permit ℕ)
      → judge_in nat_eq fresh world task call ≡ Ok permit → EndsInAWorld task permit
      → OthersAsBefore world (settled nat_eq (apply nat_eq fresh world task permit).world) names
      (grown names name call (apply nat_eq fresh world task permit).answer)

  pub granted_out : only_looks call ≡ false → Permits → GivesNoFoothold world names name call fresh
  granted_out changes permits = by its_answer refl
    where
      by : (answer : Result Answer Deny) → its_answer ≡ answer → GivesNoFoothold world names name call fresh
      by (Err deny) e = refused_out it fresh (ap is_ok e)
      by (Ok answer) e =
          let did = permitted world fresh name call answer changes e in
          let set = grown names name call (apply nat_eq fresh world did.task did.permit).answer in
          let done = (apply nat_eq fresh world did.task did.permit).world in
          let same : grown names name call its_answer ≡ set = ap (grown names name call) (e ∙ sym did.answered) in
          subst (LeavesOthersOut world after_call names) (sym same) (leaves_others_out it.is after_is
          (subst (λ w. OthersAsBefore world w names set) (sym did.left) (raised_as_before
          (permits did.task did.called did.permit did.judged (subst (IsWorld nat_eq) did.left after_is)) world name
          (filesystems_changed nat_eq world did.permit) it.theirs)))

  -- which is one
  pub one_permit : (task : Task ℕ) → task_called world name ≡ Some task → (permit : Permit ℕ)
      → judge_in nat_eq fresh world task call ≡ Ok permit → (EndsInAWorld task permit
      → OthersAsBefore world (settled nat_eq (apply nat_eq fresh world task permit).world) names
      (grown names name call (apply nat_eq fresh world task permit).answer)) → Permits
  one_permit task called permit judged before other called_too given judged_too =
      let same : task ≡ other = same_Some task other (cc) in
      let alike : Path (Result (Permit ℕ) Deny) (Ok permit) (Ok given) =
      cc (judged, same, judged_too) in
      subst (λ t. Leaves t given) same (subst (λ p. Leaves task p) (same_permit permit given alike) before)
    where
      Leaves : Task ℕ → Permit ℕ → Type 0
      Leaves t p = EndsInAWorld t p → OthersAsBefore world (settled nat_eq (apply nat_eq fresh world t p).world) names
          (grown names name call (apply nat_eq fresh world t p).answer)

      same_permit : (a b : Permit ℕ) → Path (Result (Permit ℕ) Deny) (Ok a) (Ok b) → a ≡ b
      same_permit a b e = cc
