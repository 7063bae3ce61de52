-- How a call ends, from what its judgement and its event say.
use Rattle.std.proofs.Common.{◌≡◌, refl, sym, ap, subst, ◌∙◌, ℕ, false, nat_eq, Some, None, Result, Ok, Err, ok_or, inl, inr, OnErr, OnOk}
use Rattle.vt_spec.proofs.Common.{AllocError, Call, Judgement, Permit, SameWorlds, Task, TaskName, after, apply, call_outcome, denial, filesystems_changed_by, finished, judge_in, looks_of, overfills, policy, settled, task_called, ⊤}
use Rattle.vt_spec.specs.declared.errors.Deny.{Deny}
use Rattle.vt_spec.specs.declared.errors.Rule.TheVariants.{S2, S5}
use Rattle.vt_permits.specs.Allocating.{TakesMemory}
use Rattle.vt_permits.specs.Memory.{JudgesAlike, JudgesByReceivers}
use Rattle.vt_permits.specs.GrantValue.{permit_of}
use Rattle.vt_permits.specs.declared.grant.Grant.{Grant}
use Rattle.vt_request.specs.Answers.{answer_of}
use Rattle.vt_request.specs.declared.answer.Answer.{Answer}
use Rattle.vt_request.specs.declared.answer.Answer.TheVariants.{Done}
use Rattle.vt_laws_trees.proofs.runs.answered.AlikeWorlds.{sameness_is_an_equivalence}
use Rattle.vt_laws_trees.specs.Runs.Handed.{counts_from}
use Rattle.vt_mounting.specs.Detach.Events.{Becomes, Permits, left_by, supply_of}
use Rattle.vt_world.specs.Held.{IsHeld}
use Rattle.vt_world.specs.WorldValue.{WorldValue, world_of}
use Rattle.vt_ns.specs.Grants.{Grants}
use Rattle.vt_ns.proofs.Granting.{counts}
use Rattle.vt_calls.proofs.Finishing.{answers, grants, leaves, refuses}
use Rattle.vt_calls.proofs.Forms.{frees, is_free}
use Rattle.vt_calls.proofs.NumbersLeft.{numbers_left}
use Rattle.vt_calls.proofs.OverlayGrants.{mounts_layers}
use Rattle.vt_calls.proofs.Supplies.{AreVacant, allotted, grants_permit, judged_with, permits}
use Rattle.vt_calls.specs.Answered.{answered}
use Rattle.vt_answers.specs.Ends.{MayBeRefusedMemory}
use Rattle.vt_calls.specs.Meets.{Ends, Meets}
use Rattle.vt_calls.specs.Permitted.{EndsGiven, IsGiven, IsGivenFor}

-- A call that is refused

module _ (value : WorldValue) (name : TaskName) (call : Call) (held : IsHeld value) where
  -- by a rule that answers so
  refused_by : (deny : Deny) → (policy nat_eq (counts_from value.next) (world_of value) name call).answer ≡ Err deny
      → Ends value name call (Err deny) value
  refused_by deny e =
      let supplied = counts value held in
      let is : (policy nat_eq supplied.0.new (world_of value) name call).answer ≡ Err deny =
      ap (λ fresh. (policy nat_eq fresh (world_of value) name call).answer) supplied.1 ∙ e in record {
        allotment = supplied.0;
        serves = supplied.2;
        outcome = (inl is, refl);
        memory = λ none. sym is;
        numbers = (supplied.0, supplied.2);
      }

  -- for want of memory
  short_by : (deny : Deny) → deny ≡ denial S5
      → MayBeRefusedMemory call (policy nat_eq (counts_from value.next) (world_of value) name call).answer
      → (¬ TakesMemory call → ⊥) → Ends value name call (Err deny) value
  short_by deny short may takes =
      let supplied = counts value held in record {
        allotment = supplied.0;
        serves = supplied.2;
        outcome = (
          inr (
            short,
            subst (λ fresh. MayBeRefusedMemory call (policy nat_eq fresh (world_of value) name call).answer)
                (sym supplied.1) may,
          ),
          refl,
        );
        memory = λ none. absurd (takes none);
        numbers = (supplied.0, supplied.2);
      }

  -- of a task that does not exist
  pub nobody : task_called (world_of value) name ≡ None → Ends value name call (Err (denial S2)) value
  nobody called = refused_by (denial S2) (ap (λ found. (after (world_of value) (ok_or found (denial S2)) (λ one.
      finished nat_eq (world_of value) name call (filesystems_changed_by nat_eq (world_of value)
      (judge_in nat_eq (counts_from value.next) (world_of value) one call))
      (call_outcome nat_eq (counts_from value.next) (world_of value) one call))).answer) called)

  -- as it is judged
  pub refused : (task : Task ℕ) → task_called (world_of value) name ≡ Some task → (judged : Judgement ℕ)
      → judge_in nat_eq (counts_from value.next) (world_of value) task call ≡ judged → (deny : Deny)
      → JudgesByReceivers call task judged (Err deny) → (¬ TakesMemory call → JudgesAlike task judged (Err deny))
      → Ends value name call (Err deny) value
  refused task called (Ok permit) e deny short alike =
      let granted = grants (counts_from value.next) (world_of value) task permit in
      short_by deny short (subst (MayBeRefusedMemory call)
      (sym (answers (counts_from value.next) (world_of value) name task call called (Ok permit) e ∙ granted.1)) tt)
      (λ none. let same : Ok permit ≡ Err deny = alike none in cc)
  refused task called (Err refusal) e deny (inl same) alike =
      refused_by deny (refuses (counts_from value.next) (world_of value) name task call called refusal e
      ∙ ap Err (sym same))
  refused task called (Err refusal) e deny (inr (short, late)) alike =
      later (refuses (counts_from value.next) (world_of value) name task call called refusal e)
    where
      later : (policy nat_eq (counts_from value.next) (world_of value) name call).answer ≡ Err refusal
          → Ends value name call (Err deny) value
      later is =
          let supplied = counts value held in
          let handed : (policy nat_eq supplied.0.new (world_of value) name call).answer ≡ Err refusal =
          ap (λ fresh. (policy nat_eq fresh (world_of value) name call).answer) supplied.1 ∙ is in record {
            allotment = supplied.0;
            serves = supplied.2;
            outcome = (inr (short, subst (MayBeRefusedMemory call) (sym handed) late), refl);
            memory = λ none. let judged : Err refusal ≡ Err deny =
                alike none in let same : refusal ≡ deny = cc in sym (handed ∙ ap Err same);
            numbers = (supplied.0, supplied.2);
          }

-- A call that is granted what it asks for

module _ (old : WorldValue) (name : TaskName) (call : Call) (grant : Grant)
    (given : IsGivenFor old name call grant) where
  abbrev granted : Permit ℕ
  granted = permit_of given.task grant

  -- it is applied
  ends_ok : (new : WorldValue) (answer : Answer) → AreVacant old granted
      → (apply nat_eq (supply_of old granted) (world_of old) given.task granted).answer ≡ Ok (answer_of answer)
      → Becomes old name granted new → Ends old name call (Ok answer) new
  ends_ok new answer vacant told becomes =
      let fresh = supply_of old granted in
      let supplied = allotted old given.held granted vacant in
      let judged : judge_in nat_eq fresh (world_of old) given.task call
      ≡ Ok granted = judged_with old name call grant given fresh in
      let meets : Meets call (policy nat_eq fresh (world_of old) name call) (Ok answer) old new = (
        answers fresh (world_of old) name given.task call given.called (Ok granted) judged ∙ told,
        sameness_is_an_equivalence.onward (policy nat_eq fresh (world_of old) name call).world
            (left_by old given.task granted) (world_of new)
            (leaves fresh (world_of old) name given.task call given.called granted judged given.held.in_world.nothing_unused)
            (becomes given.task given.called),
      ) in
      let handed : Meets call (policy nat_eq supplied.0.new (world_of old) name call) (Ok answer) old new =
      subst (λ numbers. Meets call (policy nat_eq numbers (world_of old) name call) (Ok answer) old new)
      (sym supplied.1) meets in record {
        allotment = supplied.0;
        serves = supplied.2;
        outcome = handed;
        memory = λ none. sym handed.0;
        numbers = numbers_left old new name call granted given.held vacant meets.1;
      }

  -- or memory is refused
  ends_short : (new : WorldValue) (deny : Deny) → deny ≡ denial S5 → new ≡ old → is_free granted ≡ false
      → Ends old name call (Err deny) new
  ends_short new deny short same taken =
      let fresh = counts_from old.next in
      let told = grants fresh (world_of old) given.task granted in
      subst (Ends old name call (Err deny)) (sym same) (short_by old name call given.held deny short
      (subst (MayBeRefusedMemory call)
      (sym (answers fresh (world_of old) name given.task call given.called (Ok granted) given.judged ∙ told.1)) tt)
      (frees (looks_of nat_eq (world_of old))
      (overfills nat_eq fresh (world_of old) given.task) given.task call granted given.judged taken))

-- The grant, and the permit that the definitions see in it

module _ (old : WorldValue) (name : TaskName) (grant : Grant) (meant : Permit ℕ)
    (seen : (task : Task ℕ) → task_called (world_of old) name ≡ Some task → permit_of task grant ≡ meant) where
  granted_is : (call : Call) (given : IsGivenFor old name call grant) → permit_of given.task grant ≡ meant
  granted_is call given = seen given.task given.called

  -- it is granted where it mounts no overlay,
  pub grants_meant : mounts_layers grant ≡ false → IsGiven old name grant → Grants old name meant
  grants_meant plain given = subst (Grants old name) (granted_is given.0 given.1)
      (grants_permit old name given.0 grant given.1 plain)

  -- and permitted
  pub permitted : mounts_layers grant ≡ false → AreVacant old meant → IsGiven old name grant → Permits old name meant
  permitted plain vacant given =
      let same = granted_is given.0 given.1 in
      subst (Permits old name) same
      (permits old name given.0 grant given.1 plain (subst (AreVacant old) (sym same) vacant))

  pub made : (new : WorldValue) (answer : Answer) → AreVacant old meant
      → ((task : Task ℕ) → task_called (world_of old) name ≡ Some task
      → (apply nat_eq (supply_of old meant) (world_of old) task meant).answer ≡ Ok (answer_of answer))
      → Becomes old name meant new → EndsGiven old name grant (Ok answer) new
  made new answer vacant told becomes call given =
      let same = granted_is call given in
      ends_ok old name call grant given new answer (subst (AreVacant old) (sym same) vacant)
      (subst (λ p. (apply nat_eq (supply_of old p) (world_of old) given.task p).answer ≡ Ok (answer_of answer))
      (sym same) (told given.task given.called)) (subst (λ p. Becomes old name p new) (sym same) becomes)

  pub short : (new : WorldValue) (deny : Deny) → deny ≡ denial S5 → new ≡ old → is_free meant ≡ false
      → EndsGiven old name grant (Err deny) new
  short new deny refused same taken call given =
      ends_short old name call grant given new deny refused same (ap is_free (granted_is call given) ∙ taken)

  -- it only looks
  pub looked : (answer : Answer) → AreVacant old meant → ((task : Task ℕ) → task_called (world_of old) name ≡ Some task
      → (apply nat_eq (supply_of old meant) (world_of old) task meant).answer ≡ Ok (answer_of answer))
      → ((task : Task ℕ) → (apply nat_eq (supply_of old meant) (world_of old) task meant).world ≡ world_of old)
      → EndsGiven old name grant (Ok answer) old
  looked answer vacant told kept call given = made old answer vacant told (λ task called.
      subst (λ world. SameWorlds world (world_of old))
      (sym (ap (settled nat_eq) (kept task) ∙ given.held.in_world.nothing_unused))
      (sameness_is_an_equivalence.itself (world_of old))) call given

  -- it is a change that answers `ok`, and makes what nothing has the number of,
  pub changed_new : (new : WorldValue) (change : Result ⊤ AllocError) (result : Result Answer Deny)
      → result ≡ answered change → OnOk change (AreVacant old meant)
      → ((task : Task ℕ) → task_called (world_of old) name ≡ Some task
      → (apply nat_eq (supply_of old meant) (world_of old) task meant).answer ≡ Ok (answer_of Done))
      → is_free meant ≡ false → OnOk change (Becomes old name meant new)
      → OnErr change (new ≡ old) → EndsGiven old name grant result new
  changed_new new (Ok done) result e vacant told taken becomes same =
      subst (λ r. EndsGiven old name grant r new) (sym e) (made new Done vacant told becomes)
  changed_new new (Err refused) result e vacant told taken becomes same =
      subst (λ r. EndsGiven old name grant r new) (sym e) (short new (denial S5) refl same taken)

  -- or makes nothing of a number
  pub changed : (new : WorldValue) (change : Result ⊤ AllocError) (result : Result Answer Deny) → result ≡ answered change
      → AreVacant old meant → ((task : Task ℕ) → task_called (world_of old) name ≡ Some task
      → (apply nat_eq (supply_of old meant) (world_of old) task meant).answer ≡ Ok (answer_of Done))
      → is_free meant ≡ false → OnOk change (Becomes old name meant new)
      → OnErr change (new ≡ old) → EndsGiven old name grant result new
  changed new (Ok done) result e vacant = changed_new new (Ok done) result e vacant
  changed new (Err refused) result e vacant = changed_new new (Err refused) result e tt

  -- or one that allocates in some cases alone
  pub changed_if : (new : WorldValue) (change : Result ⊤ AllocError) (result : Result Answer Deny) → result ≡ answered change
      → AreVacant old meant → ((task : Task ℕ) → task_called (world_of old) name ≡ Some task
      → (apply nat_eq (supply_of old meant) (world_of old) task meant).answer ≡ Ok (answer_of Done))
      → (P : Type 0) → (P → is_free meant ≡ false) → OnErr change P → OnOk change (Becomes old name meant new)
      → OnErr change (new ≡ old) → EndsGiven old name grant result new
  changed_if new (Ok done) result e vacant told P taken when becomes same =
      subst (λ r. EndsGiven old name grant r new) (sym e) (made new Done vacant told becomes)
  changed_if new (Err refused) result e vacant told P taken when becomes same =
      subst (λ r. EndsGiven old name grant r new) (sym e) (short new (denial S5) refl same (taken when))
