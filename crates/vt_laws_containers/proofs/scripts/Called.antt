-- Each name of the set that a call leaves is the name of a task.
use Rattle.std.proofs.Common.{inr, ◌≡◌, ◌≢◌, refl, sym, ap, subst, ◌∙◌, inl, ℕ, nat_eq, Bool, true, false, true≢false, cond, not, List, [], ◌∷◌, ◌++◌, ◌||◌, Option, Some, None, Result, Ok, Err, find, is_ok, is_some, map, ◌+◌, arith}
use Rattle.vt_spec.proofs.Common.{Allowed, Answer, Call, Child, Exit, Fresh, Judgement, Outcome, Permit, Task, TaskName, ToBind, ToChange, ToClose, ToEnterNamespace, ToExit, ToFork, ToList, ToListMounts, ToMake, ToMountOverlay, ToMountPlain, ToMove, ToOpen, ToOpenNew, ToPivot, ToRead, ToReadPart, ToRemoveDirectory, ToRename, ToSetCredentials, ToSetDirectory, ToSetFlags, ToSetRoot, ToSetType, ToSetUmask, ToStat, ToUnmount, ToUnmountLazily, ToUnshare, ToWritePart, World, after, among-append_right, among-from_filter, among-map, among_from_list_all, and_from, apply, cases_Bool, child_name, child_of, common_steps, filesystems_changed_by, finished_unless, found_among, found_passes, judge_in, judging, list_all_from_among, not-true, only_looks, policy, raised, raised_task, replaced_if_called, same_name, same_name_itself, same_task_name, some_from_is_some, task_called, ⊤}
use Rattle.vt_laws_containers.proofs.Common.{Deny, are_all_called, found_called, grown, left, ran}
use Rattle.vt_laws_trees.proofs.calls.tasks.TasksLaws.{only_exit_leaves, other_tasks_stay}

-- A child that is answered is there.
abbrev ChildIsThere : List (Task ℕ) → Result Answer Deny → Type 0
ChildIsThere tasks (Ok (Child child)) = is_some (find (λ (t : Task ℕ). same_name child t.name) tasks) ≡ true
ChildIsThere tasks answer = ⊤

applied : (fresh : Fresh ℕ) (world : World ℕ) (task : Task ℕ) (permit : Permit ℕ)
    → ChildIsThere (apply nat_eq fresh world task permit).world.tasks (apply nat_eq fresh world task permit).answer
applied fresh world task Allowed = tt
applied fresh world task (ToList directory) = tt
applied fresh world task (ToStat object) = tt
applied fresh world task (ToRead file) = tt
applied fresh world task (ToReadPart file offset size) = tt
applied fresh world task (ToChange location change) = tt
applied fresh world task (ToMake directory name node) = tt
applied fresh world task (ToRemoveDirectory parent name directory) = tt
applied fresh world task (ToRename from old to new object replaced) = tt
applied fresh world task (ToOpen file access) = tt
applied fresh world task (ToOpenNew directory name node access) = tt
applied fresh world task (ToWritePart file offset bytes) = tt
applied fresh world task (ToClose descriptor) = tt
applied fresh world task (ToSetDirectory directory) = tt
applied fresh world task (ToSetRoot root) = tt
applied fresh world task (ToSetUmask umask) = tt
applied fresh world task (ToSetCredentials credentials) = tt
applied fresh world task (ToFork credentials) = found_called _
    (map (replaced_if_called (record task { forks = task.forks + 1 })) world.tasks ++ child_of task credentials ∷ []) _
    (among-append_right (map (replaced_if_called (record task { forks = task.forks + 1 })) world.tasks) _ _ (inl refl))
    (same_name_itself (child_name task))
applied fresh world task ToExit = tt
applied fresh world task ToUnshare = tt
applied fresh world task (ToEnterNamespace namespace) = tt
applied fresh world task (ToMountPlain destination flags) = tt
applied fresh world task (ToMountOverlay destination overlay flags) = tt
applied fresh world task (ToBind source destination recursive) = tt
applied fresh world task (ToMove mount destination) = tt
applied fresh world task (ToUnmount mount) = tt
applied fresh world task (ToUnmountLazily mount) = tt
applied fresh world task (ToSetFlags mount flags) = tt
applied fresh world task (ToSetType mount word recursive) = tt
applied fresh world task (ToPivot new put) = tt
applied fresh world task ToListMounts = tt

-- its change number raised or not
raised_there : (name : TaskName) (tasks : List (Task ℕ)) (answer : Result Answer Deny) → ChildIsThere tasks answer
    → ChildIsThere (map (raised_task name) tasks) answer
raised_there name tasks (Ok (Child child)) there =
    let found = some_from_is_some _ there in
    found_called child _ _ (among-map _ tasks _ (found_among (λ (t : Task ℕ). same_name child _) tasks _ found.1))
    (same found.0 _ ∙ found_passes (λ (t : Task ℕ). same_name child _) tasks _ found.1)
  where
    same : (t : Task ℕ) (b : Bool)
        → same_name child (cond b (record t { change = raised t.change }) t).name ≡ same_name child t.name
    same t true = refl
    same t false = refl
raised_there name tasks answer there = there

module _ (world : World ℕ) (name : TaskName) (call : Call) (fresh : Fresh ℕ) where
  by_judgement : (task : Task ℕ) (judgement : Judgement ℕ)
      → ChildIsThere (after world judgement (apply nat_eq fresh world task)).world.tasks
      (after world judgement (apply nat_eq fresh world task)).answer
  by_judgement task (Ok permit) = applied fresh world task permit
  by_judgement task (Err deny) = tt

  by_end : (b : Bool) (changed : List ℕ) (outcome : Outcome ℕ) → ChildIsThere outcome.world.tasks outcome.answer
      → ChildIsThere (finished_unless nat_eq b world name changed outcome).world.tasks
      (finished_unless nat_eq b world name changed outcome).answer
  by_end true changed outcome there = there
  by_end false changed outcome there = raised_there name outcome.world.tasks outcome.answer there

  by_caller : (found : Option (Task ℕ))
      → ChildIsThere (ran name call world fresh found).world.tasks (ran name call world fresh found).answer
  by_caller None = tt
  by_caller (Some task) =
      let judgement : Judgement ℕ = judge_in nat_eq fresh world task call in
      let outcome : Outcome ℕ = after world judgement (apply nat_eq fresh world task) in
      by_end (only_looks call || not (is_ok outcome.answer)) (filesystems_changed_by nat_eq world judgement) outcome
      (by_judgement task judgement)

  child_is_there : ChildIsThere (policy nat_eq fresh world name call).world.tasks
      (policy nat_eq fresh world name call).answer
  child_is_there = by_caller (task_called world name)

-- the call is an exit
abbrev pub is_exit : Call → Bool
is_exit Exit = true
is_exit call = false

pub exit_if : (call : Call) → is_exit call ≡ true → call ≡ Exit
exit_if Exit e = refl
exit_if call e = absurd (true≢false (sym e))

pub left_all : (names : List TaskName) (name : TaskName) (call : Call) → is_exit call ≡ false
    → left names name call ≡ names
left_all names name Exit e = absurd (true≢false e)
left_all names name call e = refl

module _ (world : World ℕ) (fresh : Fresh ℕ) (names : List TaskName) (name : TaskName) (call : Call)
    (there : are_all_called world names ≡ true) where
  abbrev later : World ℕ
  later = (policy nat_eq fresh world name call).world

  -- a task that does not make the call stays
  other_stays : (member : TaskName) (was : Task ℕ) → member ≢ name → task_called world member ≡ Some was
      → is_some (task_called later member) ≡ true
  other_stays member was differs e = grind (arith, common_steps, other_tasks_stay)

  -- a task stays, but for the caller of an exit
  stays : (member : TaskName) → is_some (task_called world member) ≡ true
      → (member ≡ name → is_exit call ≡ false) → is_some (task_called later member) ≡ true
  stays member is kept = elim (cases_Bool (same_name member name)) [
    | inl e ↦ found (same_task_name member name e) (task_called later name) refl
    | inr e ↦ other_stays member was.0
        (λ same. true≢false (sym (ap (same_name member) (sym same) ∙ same_name_itself member) ∙ e)) was.1
  ]
    where
      was : (t : Task ℕ) × (task_called world member ≡ Some t)
      was = some_from_is_some (task_called world member) is

      found : member ≡ name → (o : Option (Task ℕ)) → task_called later name ≡ o
          → is_some (task_called later member) ≡ true
      found same (Some t) e = ap (λ n. is_some (task_called later n)) same ∙ ap is_some e
      found same None e = absurd (true≢false (sym (ap is_exit
          (only_exit_leaves fresh world name call was.0 (ap (task_called world) (sym same) ∙ was.1) e)) ∙ kept same))

  all_stay : is_exit call ≡ false → are_all_called later names ≡ true
  all_stay other = list_all_from_among (λ member. is_some (task_called later member)) names (λ member m.
      stays member (among_from_list_all (λ n. is_some (task_called world n)) names there member m) (λ same. other))

  -- after a call that is no exit
  others_stay : is_exit call ≡ false → (answer : Result Answer Deny) → ChildIsThere later.tasks answer
      → are_all_called later (grown names name call answer) ≡ true
  others_stay other answer made = grind (arith, common_steps, and_from, all_stay, left_all)

-- after an exit
module _ (world : World ℕ) (fresh : Fresh ℕ) (names : List TaskName) (name : TaskName)
    (there : are_all_called world names ≡ true) where
  abbrev ended : World ℕ
  ended = (policy nat_eq fresh world name Exit).world

  rest_stay : are_all_called ended (left names name Exit) ≡ true
  rest_stay = list_all_from_among (λ member. is_some (task_called ended member)) (left names name Exit) (λ member m.
      let from = among-from_filter (λ n. not (same_name name n)) names member m in
      stays world fresh names name Exit there member
      (among_from_list_all (λ n. is_some (task_called world n)) names there member from.0) (λ same. absurd (true≢false
      (sym (ap (same_name name) same ∙ same_name_itself name) ∙ not-true (same_name name member) from.1))))

  exit_by : (o : Option (Task ℕ)) → task_called world name ≡ o
      → are_all_called ended (grown names name Exit (ran name Exit world fresh o).answer) ≡ true
  unfolding judging
  exit_by None e =
      subst (λ w. are_all_called w names ≡ true) (sym (ap (λ o. (ran name Exit world fresh o).world) e)) there
  exit_by (Some task) e = rest_stay

pub members_stay_called : (world : World ℕ) (fresh : Fresh ℕ) (names : List TaskName) (name : TaskName) (call : Call)
    → are_all_called world names ≡ true → are_all_called (policy nat_eq fresh world name call).world
    (grown names name call (policy nat_eq fresh world name call).answer) ≡ true
members_stay_called world fresh names name call there = elim (cases_Bool (is_exit call)) [
  | inl e ↦ subst (λ c. are_all_called (policy nat_eq fresh world name c).world
      (grown names name c (policy nat_eq fresh world name c).answer) ≡ true) (sym (exit_if call e))
      (exit_by world fresh names name there (task_called world name) refl)
  | inr e ↦ others_stay world fresh names name call there e (policy nat_eq fresh world name call).answer
      (child_is_there world name call fresh)
]
