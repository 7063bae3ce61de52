-- The change numbers that a granted call leaves.
use Rattle.std.proofs.Common.{arith, ◌≡◌, refl, sym, ap, subst, ◌∙◌, ℕ, ◌*◌, nat_eq, Bool, true, false, cond, not, ◌||◌, List, Some, ok_or, is_ok}
use Rattle.vt_spec.proofs.Common.{Allowed, Among, Call, Filesystem, Fresh, IsWorld, Namespace, Permit, Task, TaskName, World, after, all_from_among, among-from_map, among_from_all, apply, child_name, common_steps, denial, filesystems_changed, filesystems_changed_by, finished, finished_unless, found_among, judge_in, list_any, numbers_raised, policy, raised, raised_if_changed, raised_namespace, raised_task, same_mounts_in, same_name, settled, task_called}
use Rattle.vt_laws_trees.proofs.calls.tasks.TasksLeft.{tasks_left}
use Rattle.vt_laws_turns.proofs.Common.{S2}
use Rattle.vt_laws_turns.proofs.dated.NamespacesDated.{namespaces_have, no_filesystem_of, no_namespace, swept_have}
use Rattle.vt_laws_turns.proofs.dated.TasksDated.{TasksHave, child_is_unborn, left_have}
use Rattle.vt_laws_turns.specs.Dated.{AreOfTheLiving, Dates, DatesFollowCalls, HasDates, IsPermittedChange, dates_after}
use Rattle.vt_spec.specs.Machine.Run.{Serves}

-- what is applied is granted
answered : (fresh : Fresh ℕ) (world : World ℕ) (task : Task ℕ) (permit : Permit ℕ)
    → is_ok (apply nat_eq fresh world task permit).answer ≡ true
answered fresh world task Allowed = refl
answered fresh world task permit = refl

-- what is new has the change number 0
pub record NewHaveNone (fresh : Fresh ℕ) (task : Task ℕ) (dates : Dates) : Type 0 where
  pub child : 0 ≡ dates.tasks (child_name task)
  pub namespace : dates.namespaces (fresh (2 * 0)) ≡ 0
  pub filesystem : dates.filesystems (fresh (2 * 0)) ≡ 0

module _ (world : World ℕ) (fresh : Fresh ℕ) (name : TaskName) (task : Task ℕ) (permit : Permit ℕ) where
  abbrev changed : List ℕ
  changed = filesystems_changed nat_eq world permit

  abbrev left : World ℕ
  left = settled nat_eq (apply nat_eq fresh world task permit).world

  -- the permit is applied, the world is swept, and then numbers are raised
  abbrev pub leaves : World ℕ
  leaves = numbers_raised nat_eq world name changed left

  pub policy_leaves : (call : Call) → IsPermittedChange world fresh name call task permit
      → (policy nat_eq fresh world name call).world ≡ leaves
  policy_leaves call given =
      ap (λ found. (after world (ok_or found (denial S2)) (λ one.
      finished nat_eq world name call (filesystems_changed_by nat_eq world (judge_in nat_eq fresh world one call))
      (after world (judge_in nat_eq fresh world one call) (apply nat_eq fresh world one)))).world) given.called
      ∙ ap (λ judged. (finished nat_eq world name call (filesystems_changed_by nat_eq world judged)
      (after world judged (apply nat_eq fresh world task))).world) given.judged
      ∙ ap (λ b. (finished_unless nat_eq (b || not (is_ok (apply nat_eq fresh world task permit).answer)) world name changed
      (apply nat_eq fresh world task permit)).world) given.changes
      ∙ ap (λ b. (finished_unless nat_eq (not b) world name changed (apply nat_eq fresh world task permit)).world)
      (answered fresh world task permit)

  module _ (dates : Dates) (called : task_called world name ≡ Some task) (has : HasDates dates world)
      (none : NewHaveNone fresh task dates) where
    abbrev after_it : Dates
    after_it = dates_after dates world name changed leaves

    had_tasks : TasksHave dates.tasks world.tasks
    had_tasks = among_from_all _ world.tasks has.tasks

    have_tasks : TasksHave dates.tasks (apply nat_eq fresh world task permit).world.tasks
    have_tasks = subst (TasksHave dates.tasks) (sym (tasks_left fresh world task permit))
        (left_have dates.tasks world fresh task (had_tasks task (found_among _ world.tasks task called)) none.child
        had_tasks permit)

    task_has : (one : Task ℕ) → Among one leaves.tasks → one.change ≡ after_it.tasks one.name
    task_has one m =
        let from = among-from_map (raised_task name) left.tasks one m in
        by from.0 (have_tasks from.0 from.1) (same_name name from.0.name) refl from.2
      where
        by : (was : Task ℕ) → was.change ≡ dates.tasks was.name → (b : Bool) → same_name name was.name ≡ b
            → one ≡ cond b (record was { change = raised was.change }) was → one.change ≡ after_it.tasks one.name
        by was had true e f = grind (arith, common_steps)
        by was had false e f = grind (arith, common_steps)

    namespace_has : (one : Namespace ℕ) → Among one leaves.namespaces → one.change ≡ after_it.namespaces one.number
    namespace_has one m =
        let from = among-from_map (raised_namespace nat_eq world left) left.namespaces one m in
        by from.0 (namespaces_have world fresh task permit dates.namespaces none.namespace
        (among_from_all _ world.namespaces has.namespaces) from.0 from.1)
        (same_mounts_in nat_eq world left from.0.number) refl from.2
      where
        by : (was : Namespace ℕ) → was.change ≡ dates.namespaces was.number → (b : Bool)
            → same_mounts_in nat_eq world left was.number ≡ b
            → one ≡ cond b was (record was { change = raised was.change })
            → one.change ≡ after_it.namespaces one.number
        by was had true e f = ap (λ (n : Namespace ℕ). n.change) f ∙ had
            ∙ ap (λ b. cond b (dates.namespaces was.number) (raised (dates.namespaces was.number))) (sym e)
            ∙ ap (λ (n : Namespace ℕ). after_it.namespaces n.number) (sym f)
        by was had false e f = ap (λ (n : Namespace ℕ). n.change) f ∙ ap raised had
            ∙ ap (λ b. cond b (dates.namespaces was.number) (raised (dates.namespaces was.number))) (sym e)
            ∙ ap (λ (n : Namespace ℕ). after_it.namespaces n.number) (sym f)

    filesystem_has : (one : Filesystem ℕ) → Among one leaves.filesystems
        → one.change ≡ after_it.filesystems one.number
    filesystem_has one m =
        let from = among-from_map (raised_if_changed nat_eq changed) left.filesystems one m in
        by from.0 (swept_have world fresh task permit dates.filesystems none.filesystem
        (among_from_all _ world.filesystems has.filesystems) from.0 from.1)
        (list_any (λ number. nat_eq number from.0.number) changed) refl from.2
      where
        by : (was : Filesystem ℕ) → was.change ≡ dates.filesystems was.number → (b : Bool)
            → list_any (λ number. nat_eq number was.number) changed ≡ b
            → one ≡ cond b (record was { change = raised was.change }) was
            → one.change ≡ after_it.filesystems one.number
        by was had true e f = ap (λ (n : Filesystem ℕ). n.change) f ∙ ap raised had
            ∙ ap (λ b. cond b (raised (dates.filesystems was.number)) (dates.filesystems was.number)) (sym e)
            ∙ ap (λ (n : Filesystem ℕ). after_it.filesystems n.number) (sym f)
        by was had false e f = ap (λ (n : Filesystem ℕ). n.change) f ∙ had
            ∙ ap (λ b. cond b (raised (dates.filesystems was.number)) (dates.filesystems was.number)) (sym e)
            ∙ ap (λ (n : Filesystem ℕ). after_it.filesystems n.number) (sym f)

    pub leaves_have : HasDates after_it leaves
    leaves_have = record {
      tasks = all_from_among _ leaves.tasks task_has;
      namespaces = all_from_among _ leaves.namespaces namespace_has;
      filesystems = all_from_among _ leaves.filesystems filesystem_has;
    }

-- numbers handed in are unused
pub new_have_none : (world : World ℕ) (fresh : Fresh ℕ) (name : TaskName) (task : Task ℕ) (dates : Dates)
    → IsWorld nat_eq world → Serves nat_eq world fresh → task_called world name ≡ Some task
    → AreOfTheLiving dates world → NewHaveNone fresh task dates
new_have_none world fresh name task dates is serves called living = record {
  child = sym (living.tasks (child_name task) (child_is_unborn world is name task called));
  namespace = living.namespaces (fresh (2 * 0)) (no_namespace world fresh serves);
  filesystem = living.filesystems (fresh (2 * 0)) (no_filesystem_of world fresh serves);
}

pub dates_follow_calls : DatesFollowCalls
dates_follow_calls world fresh name call task permit dates is serves given has living =
    subst (λ later. HasDates (dates_after dates world name (filesystems_changed nat_eq world permit) later) later)
    (sym (policy_leaves world fresh name task permit call given))
    (leaves_have world fresh name task permit dates given.called has
    (new_have_none world fresh name task dates is serves given.called living))
