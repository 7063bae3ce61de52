-- A call of a task outside a sealed set leaves it sealed, if the set sees the same and others stay outside.
use Rattle.std.proofs.Common.{arith, ◌≡◌, refl, sym, ap, subst, ◌∙◌, ◌⊎◌, inl, inr, ⊎_elim, ℕ, nat_eq, Bool, true, false, List, [], ◌++◌, append-nil, Result, Ok, Err, map, not, ◌||◌}
use Rattle.vt_spec.proofs.Common.{Among, Answer, Call, Filesystem, Fresh, IsWorld, Permit, Task, TaskName, World, among-append, among-from_filter, among-map, among_from_contains, among_from_list_all, and_from, and_parts, apply, common_steps, filesystems_changed, has_layer_on, holds_all_tasks, is_among, is_among_numbers, is_overlay, judge_in, list_all, list_all_from_among, list_any, no_outsider_on, no_outsider_on_mounts, numbers_raised, only_looks, or_cases, or_left, or_right, overlays, policy, settled, shares_no_events, used_alone, used_filesystems}
use Rattle.vt_laws_sealed.proofs.Common.{Deny, every_call_keeps_worlds}
use Rattle.vt_laws_rules.proofs.denials.Unchanged.{look_changes_nothing}
use Rattle.vt_laws_rules.proofs.rules.OwnRules.{denial_changes_nothing}
use Rattle.vt_laws_sealed.proofs.outsiders.OthersCalls.{IsOthersCall, apart_from}
use Rattle.vt_laws_later_calls.proofs.Granted.{permitted}
use Rattle.vt_laws_sealed.specs.Part.Parts.{SeesTheSame}
use Rattle.vt_laws_sealed.specs.Part.Seals.{IsApart}
use Rattle.vt_laws_sealed.proofs.part.part.Observed.{part_same, used_same}
use Rattle.vt_laws_sealed.proofs.part.seals.ByPart.{fewer_footholds_seal_too}
use Rattle.vt_laws_sealed.specs.Outsiders.{IsOutsidersCall, LeavesItSealed, OutsidersLeaveASealedSet}
use Rattle.vt_laws_sealed.proofs.outsiders.Raising.{events_raised, on_mounts_raised, sees_raised, tasks_raised, used_alone_raised}

-- a filesystem of the world, or one that the set uses
abbrev pub IsOfTheWorld : World ℕ → List TaskName → ℕ → Type 0
IsOfTheWorld world names number =
    (is_among nat_eq number (map (λ (filesystem : Filesystem ℕ). filesystem.number) world.filesystems) ≡ true)
    ⊎ Among number (used_filesystems nat_eq world names)

-- what a call leaves before change numbers are raised: others are where they were, or elsewhere, but not where the set
-- is
pub record OthersStayOut (world left : World ℕ) (names : List TaskName) : Type 0 where
  pub tasks : holds_all_tasks nat_eq left names ≡ true
  pub events : shares_no_events nat_eq left names ≡ true
  pub locations : no_outsider_on_mounts nat_eq left names ≡ true
  pub free : (number : ℕ) → IsOfTheWorld world names number → used_alone nat_eq world names number ≡ true
      → used_alone nat_eq left names number ≡ true

-- the whole of it: the set sees the same, others stay outside, and no filesystem of the set is raised
pub record LeavesApart (world left : World ℕ) (names : List TaskName) (changed : List ℕ) : Type 0 where
  pub sees : SeesTheSame world left names
  pub others : OthersStayOut world left names
  pub unraised : (number : ℕ) → Among number (used_filesystems nat_eq world names)
      → list_any (λ n. nat_eq n number) changed ≡ false

module _ {world : World ℕ} {fresh : Fresh ℕ} {names : List TaskName} {name : TaskName} {call : Call}
    (outsider : IsOutsidersCall world fresh names name call) where
  -- what leaves the world leaves the set
  pub leaves_itself : (later : World ℕ) → later ≡ world → LeavesItSealed world later names
  leaves_itself later same = grind (arith, common_steps)

  module _ (left : World ℕ) (changed : List ℕ)
      (policy_left : (policy nat_eq fresh world name call).world ≡ numbers_raised nat_eq world name changed left)
      (leaves : LeavesApart world left names changed) where
    abbrev later : World ℕ
    later = numbers_raised nat_eq world name changed left

    later_sees : SeesTheSame world later names
    later_sees = sees_raised world left names name changed outsider.outside leaves.sees outsider.is.mounts
        (apart_from outsider).events leaves.unraised

    later_is : IsWorld nat_eq later
    later_is = subst (IsWorld nat_eq) policy_left
        (every_call_keeps_worlds world fresh name call outsider.is outsider.serves outsider.few_groups)

    later_apart : IsApart later names
    later_apart = search (arith, common_steps, later_is, tasks_raised, events_raised, on_mounts_raised)

    later_free : (number : ℕ) → IsOfTheWorld world names number → used_alone nat_eq world names number ≡ true
        → used_alone nat_eq later names number ≡ true
    later_free number of alone =
        used_alone_raised world left names name changed outsider.outside number ∙ leaves.others.free number of alone

    later_leaves : LeavesItSealed world later names
    later_leaves = record {
      sealed_off =
          fewer_footholds_seal_too later world names later_apart outsider.is (part_same world later names later_sees)
          (λ number m. later_free number (inr (subst (Among number) (used_same world later names later_sees)
          (among_from_contains (used_filesystems nat_eq later names) number m)))) outsider.sealed_off;
      part = part_same world later names later_sees;
      no_more = λ filesystem m. later_free filesystem.number
          (inl (is_among_numbers (map (λ (f : Filesystem ℕ). f.number) world.filesystems) filesystem.number
          (among-map (λ (f : Filesystem ℕ). f.number) world.filesystems filesystem
          (among_from_contains world.filesystems filesystem m))));
    }

    pub leaves_it_sealed : LeavesItSealed world (policy nat_eq fresh world name call).world names
    leaves_it_sealed = subst (λ w. LeavesItSealed world w names) (sym policy_left) later_leaves

-- by the permit of the call, if it is granted
pub by_permit : ((world : World ℕ) (fresh : Fresh ℕ) (names : List TaskName) (name : TaskName) (call : Call)
    (task : Task ℕ) → IsOthersCall world fresh names name call task
    → (permit : Permit ℕ) → judge_in nat_eq fresh world task call ≡ Ok permit
    → LeavesApart world (settled nat_eq (apply nat_eq fresh world task permit).world) names
    (filesystems_changed nat_eq world permit)) → OutsidersLeaveASealedSet
by_permit leaves world fresh names name call outsider = by (policy nat_eq fresh world name call).answer refl
  where
    granted : (answer : Answer) → (policy nat_eq fresh world name call).answer ≡ Ok answer → (b : Bool)
        → only_looks call ≡ b → LeavesItSealed world (policy nat_eq fresh world name call).world names
    granted answer e true looks = leaves_itself outsider (policy nat_eq fresh world name call).world
        (look_changes_nothing fresh world name call looks)
    granted answer e false changes =
        let did = permitted world fresh name call answer changes e in
        leaves_it_sealed outsider (settled nat_eq (apply nat_eq fresh world did.task did.permit).world)
        (filesystems_changed nat_eq world did.permit) did.left (leaves world fresh names name call did.task
        (record { it = outsider; called = did.called }) did.permit did.judged)

    by : (answer : Result Answer Deny) → (policy nat_eq fresh world name call).answer ≡ answer
        → LeavesItSealed world (policy nat_eq fresh world name call).world names
    by (Err deny) e = leaves_itself outsider (policy nat_eq fresh world name call).world
        (denial_changes_nothing fresh world name call deny e)
    by (Ok answer) e = granted answer e (only_looks call) refl

-- others have no foothold on a filesystem where none of them is, with the overlays that there were, and more that have
-- no layer on it
pub free_with : (world left : World ℕ) (names : List TaskName) (more : List (Filesystem ℕ))
    → overlays left ≡ overlays world ++ more
    → ((number : ℕ) → IsOfTheWorld world names number → no_outsider_on nat_eq world names number ≡ true
    → no_outsider_on nat_eq left names number ≡ true) → ((merged : Filesystem ℕ) → Among merged more → (number : ℕ)
    → no_outsider_on nat_eq world names number ≡ true → has_layer_on nat_eq number merged ≡ false)
    → (number : ℕ) → IsOfTheWorld world names number → used_alone nat_eq world names number ≡ true
    → used_alone nat_eq left names number ≡ true
free_with world left names more grown fewer none number of alone =
    let parts = and_parts (no_outsider_on nat_eq world names number)
    (list_all (free_in world) (overlays world)) alone in
    and_from (no_outsider_on nat_eq left names number) (list_all (free_in left) (overlays left))
    (fewer number of parts.0) (list_all_from_among (free_in left) (overlays left) (λ merged m.
    ⊎_elim
    (λ old. ⊎_elim (or_left (not (has_layer_on nat_eq number merged)) (no_outsider_on nat_eq left names merged.number))
    (λ e. or_right (not (has_layer_on nat_eq number merged)) (no_outsider_on nat_eq left names merged.number)
    (fewer merged.number (of_the_world merged old) e))
    (or_cases (not (has_layer_on nat_eq number merged)) (no_outsider_on nat_eq world names merged.number)
    (among_from_list_all (free_in world) (overlays world) parts.1 merged old)))
    (λ new. or_left (not (has_layer_on nat_eq number merged)) (no_outsider_on nat_eq left names merged.number)
    (ap not (none merged new number parts.0)))
    (among-append (overlays world) more merged (subst (Among merged) grown m))))
  where
    free_in : World ℕ → Filesystem ℕ → Bool
    free_in in_world merged =
        not (has_layer_on nat_eq number merged) || no_outsider_on nat_eq in_world names merged.number

    of_the_world : (merged : Filesystem ℕ) → Among merged (overlays world) → IsOfTheWorld world names merged.number
    of_the_world merged m = inl (is_among_numbers (map (λ (f : Filesystem ℕ). f.number) world.filesystems) merged.number
        (among-map (λ (f : Filesystem ℕ). f.number) world.filesystems merged
        (among-from_filter is_overlay world.filesystems merged m).0))

pub free_from : (world left : World ℕ) (names : List TaskName) → overlays left ≡ overlays world
    → ((number : ℕ) → IsOfTheWorld world names number → no_outsider_on nat_eq world names number ≡ true
    → no_outsider_on nat_eq left names number ≡ true)
    → (number : ℕ) → IsOfTheWorld world names number → used_alone nat_eq world names number ≡ true
    → used_alone nat_eq left names number ≡ true
free_from world left names same fewer =
    free_with world left names [] (cc (append-nil (overlays world))) fewer (λ merged m number free. absurd m)
