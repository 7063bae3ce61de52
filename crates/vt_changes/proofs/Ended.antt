-- How calls end, change numbers included.
use Rattle.std.proofs.Common.{arith, ◌≡◌, ◌≤◌, ◌+◌, refl, sym, ap, subst, ◌∙◌, ◌⊎◌, inl, inr, ℕ, nat_eq, true, false, true≢false, cond, List, length, map, Some, None, Result, Ok, Err, ok_or, option_map}
use Rattle.vt_spec.proofs.Common.{Call, Fresh, IsWorld, Namespace, Permit, SameWorlds, Task, TaskName, World, after, apply, denial, filesystems_changed, filesystems_changed_by, finished, judge_in, length-map, only_looks, policy, raised, raised_namespace, settled, task_called}
use Rattle.vt_spec.specs.declared.errors.Deny.{Deny}
use Rattle.vt_spec.specs.declared.errors.Rule.TheVariants.{S2, S5}
use Rattle.vt_spec.specs.Language.Answers as spec
use Rattle.vt_laws_rules.proofs.denials.Unchanged.{look_changes_nothing}
use Rattle.vt_laws_rules.proofs.numbers.Texts.{room_serves}
use Rattle.vt_laws_rules.proofs.same.SameMany.{same_worlds_judge_alike}
use Rattle.vt_laws_rules.proofs.same.SameNames.{worlds_have_one_name}
use Rattle.vt_laws_trees.proofs.calls.tasks.TasksFound.{find_mapped}
use Rattle.vt_laws_trees.proofs.runs.answered.AlikeWorlds.{alike_from_same, sameness_is_an_equivalence}
use Rattle.vt_laws_trees.proofs.runs.answered.TaskChanges.{judged_bare}
use Rattle.vt_laws_trees.specs.Runs.Handed.{counts_from, may_be_given}
use Rattle.vt_laws_trees.specs.Runs.Runs.{ServesInHand}
use Rattle.vt_laws_worlds.proofs.one_text.answered.AlikeAnswered.{any_same_worlds_are_answered_alike}
use Rattle.vt_laws_worlds.proofs.one_text.same.SameWhole.{any_same_worlds_are_worlds}
use Rattle.vt_laws_worlds.specs.OneText.Answered.{AreAlike}
use Rattle.vt_laws_turns.proofs.dated.ChangedAlike.{changes_alike}
use Rattle.vt_laws_turns.proofs.dated.Followed.{dates_follow_calls, policy_leaves}
use Rattle.vt_laws_turns.proofs.dated.SameDates.{dated_has, same_with_dates}
use Rattle.vt_laws_turns.proofs.frames.frames.NamespacesGoOn.{namespaces_few}
use Rattle.vt_laws_turns.specs.Dated.{AreOfTheLiving, Dates, HasDates, IsPermittedChange, SameDated, dates_after}
use Rattle.vt_request.specs.Answers.{answer_of}
use Rattle.vt_request.specs.declared.answer.Answer.{Answer}
use Rattle.vt_permits.specs.GrantValue.{permit_of}
use Rattle.vt_permits.specs.declared.grant.Grant.{Grant}
use Rattle.vt_answers.proofs.ChangeNumbers.{raises_the_change_number}
use Rattle.vt_answers.specs.Ends as any
use Rattle.vt_answers.specs.Ends.{HasNumbers, MayBeRefusedMemory}
use Rattle.vt_world.specs.Held.{IsHeld}
use Rattle.vt_world.specs.WorldValue.{WorldValue, world_of}
use Rattle.vt_ns.proofs.Granting.{counts}
use Rattle.vt_calls.proofs.Finishing.{answers, grants}
use Rattle.vt_calls.proofs.Numbered.{numbered}
use Rattle.vt_calls.proofs.Supplies.{judged_with}
use Rattle.vt_calls.specs.KernelValue.{KernelValue, kernel_world}
use Rattle.vt_calls.specs.Permitted.{IsGivenFor}
use Rattle.vt_changes.specs.DatedValue.{DatedValue, dated_world, dates_of}
use Rattle.vt_changes.specs.Ends.{EndsDated}
use Rattle.vt_changes.specs.Following.{Follows}
use Rattle.vt_changes.specs.Kept.{dates_kept}
use Rattle.vt_changes.proofs.Following.{follow_has, living_follow}
use Rattle.vt_changes.proofs.SameDates.{living_same, same_dated, serves_same}

-- lists that are one without what is left out are as long
as_long : {A : Type 0} (bare : A → A) (ones others : List A) → map bare ones ≡ map bare others → length ones ≡ length others
as_long bare ones others same = sym (length-map ones bare) ∙ ap length same ∙ length-map others bare

-- the kernel's world has all invariants
kernel_is : (kernel : KernelValue) → IsHeld kernel.world → IsWorld nat_eq (kernel_world kernel)
kernel_is kernel held = any_same_worlds_are_worlds (world_of kernel.world) (kernel_world kernel) (numbered kernel)
    held.in_world

-- and so has that with change numbers
pub dated_is : (value : DatedValue) → IsHeld value.kernel.world → IsWorld nat_eq (dated_world value)
dated_is value held = any_same_worlds_are_worlds (kernel_world value.kernel) (dated_world value)
    (same_dated (dates_of value) (kernel_world value.kernel)) (kernel_is value.kernel held)

-- a call of nobody
nobody : (fresh : Fresh ℕ) (world : World ℕ) (name : TaskName) (call : Call) → task_called world name ≡ None
    → (policy nat_eq fresh world name call).answer ≡ Err (denial S2)
nobody fresh world name call called = ap (λ found. (after world (ok_or found (denial S2)) (λ one.
    finished nat_eq world name call (filesystems_changed_by nat_eq world (judge_in nat_eq fresh world one call))
    (after world (judge_in nat_eq fresh world one call) (apply nat_eq fresh world one)))).answer) called

-- a refusal of what is answered alike
refused_alike : (call : Call) (deny : Deny) (one other : Result spec.Answer Deny) → one ≡ other
    → (one ≡ Err deny) ⊎ ((deny ≡ denial S5) × MayBeRefusedMemory call one)
    → (other ≡ Err deny) ⊎ ((deny ≡ denial S5) × MayBeRefusedMemory call other)
refused_alike call deny one other same (inl denied) = inl (sym same ∙ denied)
refused_alike call deny one other same (inr (short, may)) = inr (short, subst (MayBeRefusedMemory call) same may)

module _ (old : DatedValue) (held : IsHeld old.kernel.world) (name : TaskName) (call : Call) where
  abbrev was : World ℕ
  was = kernel_world old.kernel

  abbrev start : World ℕ
  start = dated_world old

  same_start : SameWorlds was start
  same_start = same_dated (dates_of old) was

  -- it is answered as without numbers
  alike : (fresh : Fresh ℕ) → AreAlike (policy nat_eq fresh was name call) (policy nat_eq fresh start name call)
  alike fresh = any_same_worlds_are_answered_alike was start same_start (kernel_is old.kernel held) fresh name call

  -- numbers serve
  numbers_left : (new : DatedValue) → HasNumbers (kernel_world new.kernel) → HasNumbers (dated_world new)
  numbers_left new (allotment, serves) = (
    allotment,
    serves_same (kernel_world new.kernel) (dated_world new) (same_dated (dates_of new) (kernel_world new.kernel)) allotment
        serves,
  )

  -- the world that a call leaves is the same as that of the policy
  left_same : (fresh : Fresh ℕ) (new : DatedValue)
      → SameWorlds (policy nat_eq fresh was name call).world (kernel_world new.kernel)
      → SameWorlds (policy nat_eq fresh start name call).world (dated_world new)
  left_same fresh new same =
      let all = sameness_is_an_equivalence in
      all.onward (policy nat_eq fresh start name call).world (policy nat_eq fresh was name call).world (dated_world new)
      (all.back (policy nat_eq fresh was name call).world (policy nat_eq fresh start name call).world
      (alike fresh).worlds)
      (all.onward (policy nat_eq fresh was name call).world (kernel_world new.kernel) (dated_world new) same
      (same_dated (dates_of new) (kernel_world new.kernel)))

  -- A refused call
  pub ends_refused : (deny : Deny) (kernel : KernelValue) (new : DatedValue) → new ≡ old
      → any.Ends kernel_world old.kernel name call (Err deny) kernel → EndsDated old name call (Err deny) new
  ends_refused deny kernel new kept ends = record {
    allotment = ends.allotment;
    serves = serves_same was start same_start ends.allotment ends.serves;
    outcome = (
      refused_alike call deny (policy nat_eq ends.allotment.new was name call).answer
          (policy nat_eq ends.allotment.new start name call).answer (alike ends.allotment.new).answer ends.outcome.0,
      kept,
    );
    memory = λ looks none. ends.memory none ∙ (alike ends.allotment.new).answer;
    numbers = subst (λ (value : DatedValue). HasNumbers (dated_world value)) (sym kept)
        (ends.allotment, serves_same was start same_start ends.allotment ends.serves);
  }

  -- A call of nobody
  pub ends_nobody : task_called (world_of old.kernel.world) name ≡ None → (deny : Deny) → deny ≡ denial S2
      → (new : DatedValue) → new ≡ old → EndsDated old name call (Err deny) new
  ends_nobody none deny is new kept =
      let supplied = counts old.kernel.world held in
      let world : World ℕ = world_of old.kernel.world in
      let same : SameWorlds world start =
      sameness_is_an_equivalence.onward world was start (numbered old.kernel) same_start in
      let called : task_called start name ≡ None =
      find_mapped (λ (t : Task ℕ). record t { change = (dates_of old).tasks t.name }) (λ t. refl) name was.tasks
      ∙ ap (option_map (λ (t : Task ℕ). record t { change = (dates_of old).tasks t.name })) none in
      let answer : (policy nat_eq supplied.0.new start name call).answer ≡ Err deny =
      nobody supplied.0.new start name call called ∙ ap Err (sym is) in record {
        allotment = supplied.0;
        serves = serves_same world start same supplied.0 supplied.2;
        outcome = (inl answer, kept);
        memory = λ looks none. sym answer;
        numbers = subst (λ (value : DatedValue). HasNumbers (dated_world value)) (sym kept)
            (supplied.0, serves_same world start same supplied.0 supplied.2);
      }

  -- A granted change for whose numbers there is no room
  pub ends_short : (grant : Grant) → IsGivenFor old.kernel.world name call grant → only_looks call ≡ false
      → (new : DatedValue) → new ≡ old → EndsDated old name call (Err (denial S5)) new
  ends_short grant given changes new kept =
      let value : WorldValue = old.kernel.world in
      let world : World ℕ = world_of value in
      let supplied = counts value held in
      let granted = grants (counts_from value.next) world given.task (permit_of given.task grant) in
      let same : SameWorlds world start =
      sameness_is_an_equivalence.onward world was start (numbered old.kernel) same_start in
      let answer : (policy nat_eq supplied.0.new start name call).answer ≡ Ok granted.0 =
      sym (any_same_worlds_are_answered_alike world start same held.in_world supplied.0.new name call).answer
      ∙ ap (λ fresh. (policy nat_eq fresh world name call).answer) supplied.1
      ∙ answers (counts_from value.next) world name given.task call given.called (Ok (permit_of given.task grant))
      given.judged ∙ granted.1 in record {
        allotment = supplied.0;
        serves = serves_same world start same supplied.0 supplied.2;
        outcome = (inr (refl, subst (MayBeRefusedMemory call) (sym answer) tt), kept);
        memory = λ looks none. absurd (true≢false (sym looks ∙ changes));
        numbers = subst (λ (value : DatedValue). HasNumbers (dated_world value)) (sym kept)
            (supplied.0, serves_same world start same supplied.0 supplied.2);
      }

  -- A call that only looks
  module _ (answer : Answer) (kernel : KernelValue) (ends : any.Ends kernel_world old.kernel name call (Ok answer) kernel)
      (looks : only_looks call ≡ true) (change : kernel.change ≡ old.kernel.change) where
    abbrev looked : DatedValue
    looked = record old { kernel = kernel }

    abbrev by_it : Fresh ℕ
    by_it = ends.allotment.new

    same_left : SameWorlds was (kernel_world kernel)
    same_left = subst (λ w. SameWorlds w (kernel_world kernel)) (look_changes_nothing by_it was name call looks)
        ends.outcome.1

    pub looked_is : IsWorld nat_eq (dated_world looked)
    looked_is = any_same_worlds_are_worlds was (dated_world looked)
        (sameness_is_an_equivalence.onward was (kernel_world kernel) (dated_world looked) same_left
        (same_dated (dates_of old) (kernel_world kernel))) (kernel_is old.kernel held)

    pub living_looked : AreOfTheLiving (dates_of old) was → AreOfTheLiving (dates_of old) (kernel_world kernel)
    living_looked living = living_same was (kernel_world kernel) same_left (dates_of old) living

    pub ends_looked : EndsDated old name call (Ok answer) looked
    ends_looked = record {
      allotment = ends.allotment;
      serves = serves_same was start same_start ends.allotment ends.serves;
      outcome = (
        sym (alike by_it).answer ∙ ends.outcome.0,
        subst (λ w. SameDated w (dated_world looked)) (sym (look_changes_nothing by_it start name call looks))
            (same_with_dates start (dated_world looked) (subst (λ w. SameWorlds w (dated_world looked))
            (look_changes_nothing by_it start name call looks) (left_same by_it looked ends.outcome.1)) (dates_of old)
            (dated_has (dates_of old) was) (dated_has (dates_of old) (kernel_world kernel)) (sym change)),
      );
      memory = λ looks none. ends.memory none ∙ (alike by_it).answer;
      numbers = numbers_left looked ends.numbers;
    }

  -- A change
  module _ (grant : Grant) (given : IsGivenFor old.kernel.world name call grant) (changes : only_looks call ≡ false)
      (living : AreOfTheLiving (dates_of old) was) (answer : Answer) (kernel : KernelValue)
      (ends : any.Ends kernel_world old.kernel name call (Ok answer) kernel)
      (change : kernel.change ≡ raised old.kernel.change) where
    abbrev permit : Permit ℕ
    permit = permit_of given.task grant

    abbrev handed : Fresh ℕ
    handed = ends.allotment.new

    -- the task, with its number
    abbrev task : Task ℕ
    task = record given.task { change = (dates_of old).tasks given.task.name }

    called : task_called start name ≡ Some task
    called = find_mapped (λ (t : Task ℕ). record t { change = (dates_of old).tasks t.name }) (λ t. refl) name was.tasks
        ∙ ap (option_map (λ (t : Task ℕ). record t { change = (dates_of old).tasks t.name })) given.called

    judged : judge_in nat_eq handed start task call ≡ Ok permit
    judged = sym (judged_bare handed start task call) ∙ judged_bare handed start given.task call
        ∙ sym (same_worlds_judge_alike (world_of old.kernel.world) start same_world
        (worlds_have_one_name (world_of old.kernel.world) held.in_world) handed given.task call)
        ∙ judged_with old.kernel.world name call grant given handed
      where
        same_world : SameWorlds (world_of old.kernel.world) start
        same_world = sameness_is_an_equivalence.onward (world_of old.kernel.world) was start (numbered old.kernel)
            same_start

    -- the filesystems that it changes
    pub changed_same : filesystems_changed nat_eq (world_of old.kernel.world) permit
        ≡ filesystems_changed nat_eq start permit
    changed_same = changes_alike (world_of old.kernel.world) start (alike_from_same (world_of old.kernel.world) start
        (sameness_is_an_equivalence.onward (world_of old.kernel.world) was start (numbered old.kernel) same_start))
        permit

    serves : ServesInHand may_be_given start ends.allotment
    serves = serves_same was start same_start ends.allotment ends.serves

    permitted : IsPermittedChange start handed name call task permit
    permitted = record { called = called; judged = judged; changes = changes }

    -- at most one namespace is new
    pub few_namespaces : length (world_of kernel.world).namespaces ≤ length (world_of old.kernel.world).namespaces + 1
    few_namespaces =
        let left = as_long (λ (n : Namespace ℕ). record n { change = 0 }) (policy nat_eq handed was name call).world.namespaces
        (kernel_world kernel).namespaces ends.outcome.1.namespaces in
        let again = as_long (λ (n : Namespace ℕ). record n { change = 0 })
        (policy nat_eq handed was name call).world.namespaces (policy nat_eq handed start name call).world.namespaces
        (alike handed).worlds.namespaces in
        let leaving = ap (λ (w : World ℕ). length w.namespaces)
        (policy_leaves start handed name task permit call permitted) in
        let raised_ones = length-map (settled nat_eq (apply nat_eq handed start task permit).world).namespaces
        (raised_namespace nat_eq start (settled nat_eq (apply nat_eq handed start task permit).world)) in
        let few = namespaces_few start handed task permit in
        let begun = length-map was.namespaces
        (λ (n : Namespace ℕ). record n { change = (dates_of old).namespaces n.number }) in
        omega (arith, left, again, leaving, raised_ones, few, begun)

    module _ (tasks : List (TaskName × ℕ)) (namespaces filesystems : List (ℕ × ℕ))
        (follows : Follows was (kernel_world kernel) name
        (filesystems_changed nat_eq (world_of old.kernel.world) permit) (dates_of old)
        (dates_kept tasks namespaces filesystems)) where
      abbrev dates : Dates
      dates = dates_kept tasks namespaces filesystems

      abbrev changed_to : DatedValue
      changed_to = record { kernel = kernel; tasks = tasks; namespaces = namespaces; filesystems = filesystems }

      pub living_changed : AreOfTheLiving dates (kernel_world kernel)
      living_changed = living_follow was (kernel_world kernel) name _ (dates_of old) dates follows handed call ends.outcome.1
          living

      abbrev last : World ℕ
      last = (policy nat_eq handed start name call).world

      same_last : SameWorlds last (dated_world changed_to)
      same_last = left_same handed changed_to ends.outcome.1

      answered : (policy nat_eq handed start name call).answer ≡ Ok (answer_of answer)
      answered = sym (alike handed).answer ∙ ends.outcome.0

      abbrev numbers_then : Dates
      numbers_then = dates_after (dates_of old) start name (filesystems_changed nat_eq start permit) last

      last_has : HasDates numbers_then last
      last_has = dates_follow_calls start handed name call task permit (dates_of old)
          (any_same_worlds_are_worlds was start same_start (kernel_is old.kernel held))
          (room_serves may_be_given start ends.allotment serves.serves)
          permitted (dated_has (dates_of old) was)
          (living_same was start same_start (dates_of old) living)

      left_has : HasDates numbers_then (dated_world changed_to)
      left_has = subst (λ numbers. HasDates (dates_after (dates_of old) start name numbers last) (dated_world changed_to))
          changed_same (follow_has was (kernel_world kernel) name _ (dates_of old) dates follows start last refl refl
          same_last.mounts same_last.master)

      raises : last.change ≡ raised old.kernel.change
      raises = raises_the_change_number handed start name call (answer_of answer) answered
          ∙ ap (λ b. cond b old.kernel.change (raised old.kernel.change)) changes

      pub ends_changed : EndsDated old name call (Ok answer) changed_to
      ends_changed = record {
        allotment = ends.allotment;
        serves = serves;
        outcome = (
          answered,
          same_with_dates last (dated_world changed_to) same_last numbers_then last_has left_has (raises ∙ sym change),
        );
        memory = λ looks none. ends.memory none ∙ (alike handed).answer;
        numbers = numbers_left changed_to ends.numbers;
      }
