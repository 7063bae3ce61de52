-- How often a call restarts.
use Rattle.std.proofs.Common.{◌≡◌, refl, sym, ap, subst, ◌∙◌, inl, inr, ℕ, nat_eq, Bool, true, false, true≢false, cond, not, List, [], ◌∷◌, ◌++◌, ◌≤◌, ◌<◌, ◌+◌, ◌&&◌, Option, Some, None, arith, is_some, option_map, option_to_list, unwrap_or}
use Rattle.vt_spec.proofs.Common.{Call, Fresh, Nobody, Progress, Queued, Reply, Sched, Someone, Task, TaskName, Turned, Who, common_steps, contains_from_among, first_of_list, first_progress, found_among, found_passes, holds_of, is_overtaken, most_restarts, none_is_some, one_further, queue_of, same_name, same_name_itself, same_task_name, same_who, task_called, turn, without_progress}
use Rattle.vt_laws_turns.specs.Commits.{Commit, Turn, commit_by, commit_of, commits, items_of}
use Rattle.vt_laws_turns.specs.Restarts.{AtMostThreeRestarts, CallsBegin, CallsGoOn, CallsRestart, IsAnsweredOrAt, IsSched, IsUnderWay, ThenCallsAreRunWhole, finds_overtaken, has_call_first, restarts_in, under_way_of}
use Rattle.vt_laws_turns.proofs.TurnKinds.{IsWalked, TurnKind, turn_of_call}
use Rattle.vt_laws_turns.proofs.TurnKinds.TurnKind.{Begins, GoesOn, Restarts, Whole}
use Rattle.vt_laws_turns.proofs.TurnShapes.{Before, Shape, turn_shape}
use Rattle.vt_laws_turns.proofs.TurnShapes.Shape.{CallDone, Further, Idle, OtherDone}
use Rattle.vt_laws_turns.proofs.played.Fronts.{more_items, itself, same_whos}
use Rattle.vt_laws_turns.proofs.restarts.Keeping.{named, turns_keep_schedulers}

-- what goes on is what is under way of its task
found_first : (name : TaskName) (progress : Progress ℕ) (rest : List (Progress ℕ)) → progress.task ≡ name
    → under_way_of (progress ∷ rest) name ≡ Some progress
found_first name progress rest e = cc (same_name_itself name)

module _ (sched : Sched ℕ) (task : Task ℕ) (line : ℕ) (call : Call) (fresh : Fresh ℕ) (turned : Turned ℕ) where
  -- a turn that walks a word
  walked_at : (before : Progress ℕ) → before.task ≡ task.name → IsWalked sched task line call fresh before turned
      → IsAnsweredOrAt turned task.name before.restarts (before.walked + 1)
  walked_at before e (inl whole) = inl (ap (λ (t : Turned ℕ). is_some t.reply) whole)
  walked_at before e (inr further) = inr (
    one_further nat_eq sched.world further.met before,
    ap (λ (t : Turned ℕ). under_way_of t.sched.under_way task.name) further.is
        ∙ found_first task.name (one_further nat_eq sched.world further.met before)
        (without_progress before.task sched.under_way) e,
    refl,
    refl,
  )

  begin : under_way_of sched.under_way task.name ≡ None → TurnKind sched task line call fresh turned
      → IsAnsweredOrAt turned task.name 0 1
  begin none (Begins e walked) = walked_at (first_progress nat_eq sched.world task 0) refl walked
  begin none (GoesOn p found current walked) = none_is_some p (cc)
  begin none (Restarts p found stale few walked) = none_is_some p (cc)
  begin none (Whole p found stale many is) = none_is_some p (cc)

  -- what is found is one
  one_found : (p q : Progress ℕ) → under_way_of sched.under_way task.name ≡ Some p
      → under_way_of sched.under_way task.name ≡ Some q → p ≡ q
  one_found p q e f = ap (λ o. unwrap_or o p) (sym e ∙ f)

  is_named : (p : Progress ℕ) → under_way_of sched.under_way task.name ≡ Some p → p.task ≡ task.name
  is_named p e = sym (same_task_name task.name p.task
      (found_passes (λ (q : Progress ℕ). same_name task.name q.task) sched.under_way p e))

  go_on : (p : Progress ℕ) → IsUnderWay sched task p false → TurnKind sched task line call fresh turned
      → IsAnsweredOrAt turned task.name p.restarts (p.walked + 1)
  go_on p at (Begins e walked) = none_is_some p (sym e ∙ at.under_way)
  go_on p at (GoesOn q found current walked) =
      subst (λ (r : Progress ℕ). IsAnsweredOrAt turned task.name r.restarts (r.walked + 1))
      (one_found q p found at.under_way) (walked_at q (is_named q found) walked)
  go_on p at (Restarts q found stale few walked) =
      cc (stale, one_found q p found at.under_way, at.numbers)
  go_on p at (Whole q found stale many is) =
      cc (stale, one_found q p found at.under_way, at.numbers)

  restart : (p : Progress ℕ) → IsUnderWay sched task p true → p.restarts < most_restarts
      → TurnKind sched task line call fresh turned → IsAnsweredOrAt turned task.name (p.restarts + 1) 1
  restart p at few (Begins e walked) = none_is_some p (sym e ∙ at.under_way)
  restart p at few (GoesOn q found current walked) = cc (at.numbers, one_found p q at.under_way found)
  restart p at few (Restarts q found stale fewer walked) = subst (λ (r : Progress ℕ). IsAnsweredOrAt turned task.name
      (r.restarts + 1) 1) (one_found q p found at.under_way) (walked_at _ refl walked)
  restart p at few (Whole q found stale many is) = inl (ap (λ (t : Turned ℕ). is_some t.reply) is)

  run_whole_then : (p : Progress ℕ) → IsUnderWay sched task p true → most_restarts ≤ p.restarts
      → TurnKind sched task line call fresh turned → is_some turned.reply ≡ true
  run_whole_then p at many known = grind (arith, common_steps, none_is_some, true≢false, one_found)

pub calls_begin : CallsBegin
calls_begin sched task line call fresh next none =
    begin sched task line call fresh _ none (turn_of_call sched task line call fresh next)

pub calls_go_on : CallsGoOn
calls_go_on sched task line call fresh progress next at =
    go_on sched task line call fresh _ progress at (turn_of_call sched task line call fresh next)

pub calls_restart : CallsRestart
calls_restart sched task line call fresh progress next at few =
    restart sched task line call fresh _ progress at few (turn_of_call sched task line call fresh next)

pub then_calls_are_run_whole : ThenCallsAreRunWhole
then_calls_are_run_whole sched task line call fresh progress next at many =
    run_whole_then sched task line call fresh _ progress at many (turn_of_call sched task line call fresh next)

-- Over a schedule

-- how often what is under way of a task restarted
abbrev restarts_of : Option (Progress ℕ) → ℕ
restarts_of found = unwrap_or (option_map (λ (p : Progress ℕ). p.restarts) found) 0

-- a name that is not the same is found alike without what is under way of another
found_without : (name other : TaskName) (under_way : List (Progress ℕ)) → same_name name other ≡ false
    → under_way_of (without_progress other under_way) name ≡ under_way_of under_way name
found_without name other [] e = refl
found_without name other (p ∷ rest) e = by _ (same_name name p.task) refl refl (found_without name other rest e)
  where
    by : (b c : Bool) → same_name other p.task ≡ b → same_name name p.task ≡ c
        → under_way_of (without_progress other rest) name ≡ under_way_of rest name
        → under_way_of (cond (not b) (p ∷ without_progress other rest) (without_progress other rest)) name
        ≡ cond c (Some p) (under_way_of rest name)
    by true true f g h =
        absurd (true≢false (sym (subst (λ n. same_name n other ≡ true) (sym (same_task_name name p.task g))
        (subst (λ n. same_name p.task n ≡ true) (sym (same_task_name other p.task f)) (same_name_itself p.task))) ∙ e))
    by true false f g h = h
    by false c f g h = cc

module _ (sched : Sched ℕ) (is : IsSched sched) (name : TaskName) where
  -- what a turn of the task begins with, if it finds nothing overtaken
  abbrev finds : Bool
  finds = holds_of (λ task. holds_of (λ progress. is_overtaken nat_eq sched.world task progress)
      (under_way_of sched.under_way name)) (task_called sched.world name)

  none_found : under_way_of sched.under_way name ≡ None → finds ≡ false
  none_found e = grind (arith, common_steps)

  some_found : (task : Task ℕ) (p : Progress ℕ) (b : Bool) → task_called sched.world name ≡ Some task
      → under_way_of sched.under_way name ≡ Some p → is_overtaken nat_eq sched.world task p ≡ b → finds ≡ b
  some_found task p b t e o = cc

  -- the task's own turn
  own_turn : (fresh : Option (Fresh ℕ)) (turned : Turned ℕ) → turned.reply ≡ None
      → Shape sched (Someone name) fresh turned → restarts_of (under_way_of sched.under_way name) + cond finds 1 0
      ≤ restarts_of (under_way_of turned.sched.under_way name)
  own_turn fresh turned none (Idle e idle) = subst (λ (t : Turned ℕ). restarts_of (under_way_of sched.under_way name)
      + cond finds 1 0 ≤ restarts_of (under_way_of t.sched.under_way name)) (sym idle) (by _ refl)
    where
      by : (found : Option (Progress ℕ)) → under_way_of sched.under_way name ≡ found
          → restarts_of (under_way_of sched.under_way name) + cond finds 1 0
          ≤ restarts_of (under_way_of sched.under_way name)
      by None f = subst (λ b. restarts_of (under_way_of sched.under_way name) + cond b 1 0
          ≤ restarts_of (under_way_of sched.under_way name)) (sym (none_found f)) (omega arith)
      by (Some p) f =
          let same : name ≡ p.task = same_task_name name p.task
          (found_passes (λ (q : Progress ℕ). same_name name q.task) sched.under_way p f) in
          let first : has_call_first sched.queues p.task ≡ true = is.first p (contains_from_among sched.under_way p
          (found_among (λ (q : Progress ℕ). same_name name q.task) sched.under_way p f)) in
          absurd (cc (same, first, e))
  own_turn fresh turned none (OtherDone first f plain outcome e) =
      none_is_some _ (sym none ∙ ap (λ (t : Turned ℕ). t.reply) e)
  own_turn fresh turned none (CallDone other w line call f outcome e) =
      none_is_some _ (sym none ∙ ap (λ (t : Turned ℕ). t.reply) e)
  own_turn fresh turned none (Further task w line call given g next before at further) =
      let same : name ≡ task.name = ap name_in w in
      let called : task_called sched.world name ≡ Some task = cc (same, next.called) in
      let after : restarts_of (under_way_of turned.sched.under_way name) ≡ before.restarts =
      ap (λ (t : Turned ℕ). restarts_of (under_way_of t.sched.under_way name)) further.is ∙ ap restarts_of
      (found_first name _ (without_progress before.task sched.under_way) (named sched task before at ∙ sym same)) in
      subst (λ n. restarts_of (under_way_of sched.under_way name) + cond finds 1 0 ≤ n) (sym after) (by same called at)
    where
      name_in : Who → TaskName
      name_in (Someone n) = n
      name_in Nobody = name

      by : name ≡ task.name → task_called sched.world name ≡ Some task → Before sched task before
          → restarts_of (under_way_of sched.under_way name) + cond finds 1 0 ≤ before.restarts
      by same called known = grind (arith, common_steps, none_found, some_found)

  -- the turn of another
  other_turn : (who : Who) (fresh : Option (Fresh ℕ)) (turned : Turned ℕ) → same_who (Someone name) who ≡ false
      → Shape sched who fresh turned → under_way_of turned.sched.under_way name ≡ under_way_of sched.under_way name
  other_turn who fresh turned apart known = grind (arith, common_steps, found_without, named)

  one_turn : (who : Who) (fresh : Option (Fresh ℕ)) (turned : Turned ℕ) → Shape sched who fresh turned
      → items_of (Someone name) (option_to_list (commit_by who fresh (first_of_list (queue_of sched.queues who))
      turned.reply)) ≡ []
      → restarts_of (under_way_of sched.under_way name) + cond (same_who (Someone name) who && finds) 1 0
      ≤ restarts_of (under_way_of turned.sched.under_way name)
  one_turn who fresh turned shape none = by (same_who (Someone name) who) refl
    where
      unanswered : (items : Option Queued) (reply : Option Reply) → first_of_list (queue_of sched.queues who) ≡ items
          → turned.reply ≡ reply → who ≡ Someone name → turned.reply ≡ None
      unanswered items None f e w = e
      unanswered None (Some reply) f e w =
          grind (arith, common_steps, Shape, Idle, OtherDone, none_is_some, CallDone, Further)
      unanswered (Some first) (Some reply) f e w = absurd (not_none
          (cc (itself (Someone name))))
        where
          filled : List Queued → Bool
          filled [] = false
          filled (q ∷ rest) = true

          not_none : first ∷ [] ≡ [] → ⊥
          not_none e = true≢false (ap filled e)

      by : (b : Bool) → same_who (Someone name) who ≡ b
          → restarts_of (under_way_of sched.under_way name) + cond (b && finds) 1 0
          ≤ restarts_of (under_way_of turned.sched.under_way name)
      by true e =
          let w : who ≡ Someone name = sym (same_whos (Someone name) who e) in
          own_turn fresh turned (unanswered _ _ refl refl w) (subst (λ one. Shape sched one fresh turned) w shape)
      by false e = subst (λ found. restarts_of (under_way_of sched.under_way name) + 0 ≤ restarts_of found)
          (sym (other_turn who fresh turned e shape)) (omega arith)

-- nothing was committed of either part
both_none : (xs ys : List Queued) → xs ++ ys ≡ [] → (xs ≡ []) × (ys ≡ [])
both_none [] ys e = (refl, e)
both_none (x ∷ xs) ys e = grind (arith, common_steps, true≢false)

bounded : (schedule : List Turn) (sched : Sched ℕ) (name : TaskName) → IsSched sched
    → items_of (Someone name) (commits sched schedule) ≡ []
    → restarts_of (under_way_of sched.under_way name) + restarts_in name sched schedule ≤ most_restarts
bounded [] sched name is none = by (under_way_of sched.under_way name) refl
  where
    by : (found : Option (Progress ℕ)) → under_way_of sched.under_way name ≡ found
        → restarts_of found + 0 ≤ most_restarts
    by None e = omega arith
    by (Some p) e =
        let few = is.restarts p (contains_from_among sched.under_way p (found_among _ sched.under_way p e)) in
        omega (arith, few)
bounded (given ∷ rest) sched name is none =
    let turned : Turned ℕ = turn nat_eq sched given.0 given.1 in
    let made : List Commit = option_to_list (commit_of sched given) in
    let parts = both_none _ _ (cc (more_items (Someone name) made (commits turned.sched rest))) in
    let now = one_turn sched is name given.0 given.1 turned (turn_shape sched given.0 given.1) parts.0 in
    let later = bounded rest turned.sched name (turns_keep_schedulers sched given is) parts.1 in
    sum _ (cond (finds_overtaken name sched given) 1 0) _ (restarts_in name turned.sched rest) now later
  where
    sum : (a b c d : ℕ) → a + b ≤ c → c + d ≤ most_restarts → a + (b + d) ≤ most_restarts
    sum a b c d h k = omega (arith, h, k)

pub at_most_three_restarts : AtMostThreeRestarts
at_most_three_restarts sched schedule name is none = grind (arith, common_steps, bounded)
