-- Every call leaves a world: what is permitted fits, and each permit that fits keeps the invariants.
use Rattle.std.proofs.Common.{◌≡◌, refl, sym, ap, subst, ◌∙◌, inr, ℕ, nat_eq, Bool, true, false, List, ◌++◌, ◌||◌, not, Option, Some, None, Result, Ok, Err, flat_map, is_ok, map, ok_or, true≢false}
use Rattle.vt_spec.proofs.Common.{All-weaker, Answer, Call, Filesystem, ForksAreCounted, Fresh, HasOwnParents, IsTree, IsWorld, Judgement, ListsNumbers, MountInvariants, NamespaceInvariants, Outcome, Permit, Serves, Task, TaskName, World, after, apply, bytes_eq-Decides, call_outcome, denial, filesystems_changed_by, finished, finished_unless, found_passes, is_among, is_within_limits, judge_in, none_from_not_some, not-true, numbers_in_use, only_looks, or_parts, policy, same_name, settled, task_called, used_by_filesystem, used_by_mount}
use Rattle.vt_spec.specs.declared.errors.Deny.{Deny}
use Rattle.vt_spec.specs.declared.errors.Rule.TheVariants.{S2}
use Rattle.vt_laws_rules.proofs.judged.CallsJudged.{call_is_judged_then_applied}
use Rattle.vt_laws_rules.proofs.rules.OwnRules.{denial_changes_nothing}
use Rattle.vt_laws_rules.proofs.denials.Unchanged.{look_changes_nothing}
use Rattle.vt_laws_mounts.proofs.letting_go.Lists.{Among, all_from_among, among-append_left, among-append_right, among-flat_map, among_from_all, among_from_list_all, among_numbers, is_among_numbers}
use Rattle.vt_laws_trees.specs.Trees.{IsFileTree}
use Rattle.vt_laws_trees.specs.Trees.Calls.{AreNew, IsWorldOfTrees, mounts_overlay}
use Rattle.vt_laws_trees.specs.Trees.Limits.{names_few_groups}
use Rattle.vt_laws_trees.specs.Trees.Sizes.{IsFitWorld}
use Rattle.vt_laws_trees.proofs.trees.ChangesByCalls.{outcome_keeps}
use Rattle.vt_laws_trees.proofs.trees.ChangesWithinSizes.{outcome_fits}
use Rattle.vt_laws_trees.proofs.trees.TreesEntered.{found_all}
use Rattle.vt_laws_trees.proofs.trees.TreesLimits.{outcome_small}
use Rattle.vt_laws_trees.proofs.trees.TreesOfMounts.{worlds_are_standing}
use Rattle.vt_laws_worlds.specs.Worlds.Calls.{CallsKeepWorlds}
use Rattle.vt_laws_worlds.specs.Worlds.Kept.{IsPlain, IsWorldButForUse, MountsShow}
use Rattle.vt_laws_worlds.specs.Worlds.Filesystems.{OneFilesystemANumber}
use Rattle.vt_laws_worlds.specs.Worlds.Permits.{IsFitPermit}
use Rattle.vt_laws_worlds.specs.Worlds.Tasks.{LocationsAreThere, OneTaskAName, OpenFilesAreRegular, TasksStandOnDirectories}
use Rattle.vt_laws_worlds.proofs.RaisedInUse.{raising_numbers_keeps_world, unsettled_of}
use Rattle.vt_laws_worlds.proofs.settling.SettledTasks.{file_trees, settling_leaves_a_world}
use Rattle.vt_laws_worlds.proofs.worlds.FitPermitsNamed.{permits_fit}
use Rattle.vt_laws_worlds.proofs.kept.MountsKept.{mounts_kept}
use Rattle.vt_laws_worlds.proofs.kept.NamespacesKept.{namespaces_kept}
use Rattle.vt_laws_worlds.proofs.worlds.PermitsFilesystems.{permits_keep_filesystem_numbers}
use Rattle.vt_laws_worlds.proofs.worlds.PermitsNamed.{permits_keep_counting_forks, permits_keep_names}
use Rattle.vt_laws_worlds.proofs.worlds.PermitsPlaced.{permits_keep_directories, permits_keep_locations, permits_keep_open_files}
use Rattle.vt_laws_worlds.proofs.worlds.PermitsShow.{permits_keep_mounts_showing}

-- a task goes by the name that it is found by
pub name_found : (world : World ℕ) (name : TaskName) (task : Task ℕ) → task_called world name ≡ Some task
    → name ≡ task.name
name_found world name task e = (bytes_eq-Decides name task.name).0
    (found_passes (λ (other : Task ℕ). same_name name other.name) world.tasks task e)

-- numbers that are not in use are of no inode
pub new_numbers : (world : World ℕ) (fresh : Fresh ℕ) → IsWorld nat_eq world → Serves nat_eq world fresh
    → AreNew fresh world
new_numbers world fresh is serves =
    all_from_among (λ f. (k : ℕ) → f.files.tree.node (fresh k) ≡ None) world.filesystems (λ f m k.
    none_from_not_some (f.files.tree.node (fresh k))
    (sym (among_from_all (λ g. ListsNumbers nat_eq g.files) world.filesystems is.files.numbers f m (fresh k))
    ∙ none f m k (is_among nat_eq (fresh k) f.files.numbers) refl))
  where
    none : (f : Filesystem ℕ) → Among f world.filesystems → (k : ℕ) (b : Bool)
        → is_among nat_eq (fresh k) f.files.numbers ≡ b → b ≡ false
    none f m k false e = refl
    none f m k true e = absurd (true≢false (sym (is_among_numbers (fresh k) (numbers_in_use world)
        (among-append_left (flat_map used_by_mount world.mounts ++ flat_map used_by_filesystem world.filesystems)
        (map (λ namespace. namespace.number) world.namespaces) (fresh k)
        (among-append_right (flat_map used_by_mount world.mounts) (flat_map used_by_filesystem world.filesystems)
        (fresh k) (among-flat_map used_by_filesystem world.filesystems f (fresh k) m
        (inr (among_numbers (fresh k) f.files.numbers e)))))) ∙ serves.unused k))

-- a world of plain filesystems that has the invariants
abbrev pub Kept : World ℕ → Type 0
Kept world = IsWorld nat_eq world × IsPlain world

-- a granted call, before what nothing uses goes
module _ {world : World ℕ} {fresh : Fresh ℕ} {task : Task ℕ} (call : Call) {permit : Permit ℕ}
    (is : IsWorld nat_eq world) (plain : IsPlain world) (serves : Serves nat_eq world fresh)
    (found : task_called world task.name ≡ Some task) (other : mounts_overlay call ≡ false)
    (few : names_few_groups call ≡ true) (granted : judge_in nat_eq fresh world task call ≡ Ok permit) where
  abbrev pub after_call : World ℕ
  after_call = (call_outcome nat_eq fresh world task call).world

  pub applied : call_outcome nat_eq fresh world task call ≡ apply nat_eq fresh world task permit
  applied = cc (call_is_judged_then_applied fresh world task call, granted)

  -- what a permit that fits keeps
  kept_by_call : (Invariant : World ℕ → Type 0) → Invariant (apply nat_eq fresh world task permit).world
      → Invariant after_call
  kept_by_call Invariant h = subst (λ (o : Outcome ℕ). Invariant o.world) (sym applied) h

  fits : IsFitPermit fresh world task permit
  fits = permits_fit world fresh task call permit is plain serves found other granted

  within : is_within_limits task ≡ true
  within = found_all (λ (t : Task ℕ). is_within_limits t ≡ true) (λ t. same_name task.name t.name) world.tasks task
      (all_from_among (λ (t : Task ℕ). is_within_limits t ≡ true) world.tasks
      (among_from_list_all is_within_limits world.tasks is.tasks.small_tasks)) found

  trees : IsWorldOfTrees after_call
  trees = outcome_keeps fresh world task
      (record { plain = plain; trees = file_trees world (unsettled_of world is plain) })
      (worlds_are_standing world is) (new_numbers world fresh is serves) call other

  sizes : IsFitWorld after_call
  sizes = outcome_fits fresh world task (record { plain = plain; fit = is.files.fit_filesystems }) call other

  pub unsettled : IsWorldButForUse after_call
  unsettled = record {
    plain = trees.plain;
    files = record {
      trees = All-weaker (λ (f : Filesystem ℕ). IsFileTree f.files) (λ f. IsTree f.files.tree)
          (λ f t. t.tree) after_call.filesystems trees.trees;
      own_parents = All-weaker (λ (f : Filesystem ℕ). IsFileTree f.files) (λ f. HasOwnParents f.files.tree)
          (λ f t. t.own_parents) after_call.filesystems trees.trees;
      numbers = All-weaker (λ (f : Filesystem ℕ). IsFileTree f.files) (λ f. ListsNumbers nat_eq f.files)
          (λ f t. t.numbers) after_call.filesystems trees.trees;
      one_filesystem = kept_by_call OneFilesystemANumber
          (permits_keep_filesystem_numbers world fresh task permit is plain serves found fits);
      fit_filesystems = sizes.fit;
    };
    mounts = kept_by_call (MountInvariants nat_eq) (mounts_kept world fresh task permit is plain serves found fits);
    namespaces = kept_by_call (NamespaceInvariants nat_eq)
        (namespaces_kept world fresh task permit is plain serves found fits);
    tasks = record {
      one_task = kept_by_call OneTaskAName (permits_keep_names world fresh task permit is plain serves found fits);
      small_tasks = outcome_small fresh world task is.tasks.small_tasks within call few;
      forks_counted = kept_by_call ForksAreCounted
          (permits_keep_counting_forks world fresh task permit is plain serves found fits);
      locations_live = kept_by_call LocationsAreThere
          (permits_keep_locations world fresh task permit is plain serves found fits);
      directories = kept_by_call TasksStandOnDirectories
          (permits_keep_directories world fresh task permit is plain serves found fits);
      open_files = kept_by_call OpenFilesAreRegular
          (permits_keep_open_files world fresh task permit is plain serves found fits);
    };
    roots = kept_by_call MountsShow (permits_keep_mounts_showing world fresh task permit is plain serves found fits);
  }

  -- and then what nothing uses goes, and numbers are raised
  finished_keeps : (name : TaskName) (changed : List ℕ)
      → Kept (finished_unless nat_eq false world name changed (call_outcome nat_eq fresh world task call)).world
  finished_keeps name changed =
      let left = settling_leaves_a_world after_call unsettled in
      raising_numbers_keeps_world world name changed (settled nat_eq after_call) left.0 left.1

module _ {world : World ℕ} {fresh : Fresh ℕ} (name : TaskName) (call : Call) (is : IsWorld nat_eq world)
    (plain : IsPlain world) (serves : Serves nat_eq world fresh) (other : mounts_overlay call ≡ false)
    (few : names_few_groups call ≡ true) where
  unchanged : (policy nat_eq fresh world name call).world ≡ world → Kept (policy nat_eq fresh world name call).world
  unchanged same = subst Kept (sym same) (is, plain)

  refused : (answer : Result Answer Deny) → (policy nat_eq fresh world name call).answer ≡ answer → is_ok answer ≡ false
      → Kept (policy nat_eq fresh world name call).world
  refused (Ok a) e denied = absurd (true≢false denied)
  refused (Err deny) e denied = unchanged (denial_changes_nothing fresh world name call deny e)

  -- the call of a task that is there
  called : (task : Task ℕ) → task_called world name ≡ Some task → Kept (policy nat_eq fresh world name call).world
  called task found = by (only_looks call || not (is_ok outcome.answer)) refl
    where
      changed : List ℕ
      changed = filesystems_changed_by nat_eq world (judge_in nat_eq fresh world task call)

      outcome : Outcome ℕ
      outcome = call_outcome nat_eq fresh world task call

      it_is : policy nat_eq fresh world name call ≡ finished nat_eq world name call changed outcome
      it_is = ap (λ o. after world (ok_or o (denial S2)) (λ t. finished nat_eq world name call
          (filesystems_changed_by nat_eq world (judge_in nat_eq fresh world t call))
          (call_outcome nat_eq fresh world t call))) found

      by : (b : Bool) → (only_looks call || not (is_ok outcome.answer)) ≡ b
          → Kept (policy nat_eq fresh world name call).world
      by true e = looking (only_looks call) refl e
        where
          same : policy nat_eq fresh world name call ≡ outcome
          same = it_is ∙ ap (λ b. finished_unless nat_eq b world name changed outcome) e

          looking : (b : Bool) → only_looks call ≡ b → (b || not (is_ok outcome.answer)) ≡ true
              → Kept (policy nat_eq fresh world name call).world
          looking true looks f = unchanged (look_changes_nothing fresh world name call looks)
          looking false looks f =
              refused outcome.answer (ap (λ (o : Outcome ℕ). o.answer) same) (not-true (is_ok outcome.answer) f)
      by false e = judged (judge_in nat_eq fresh world task call) refl
        where
          same : policy nat_eq fresh world name call ≡ finished_unless nat_eq false world name changed outcome
          same = cc (it_is, e)

          judged : (judgement : Judgement ℕ) → judge_in nat_eq fresh world task call ≡ judgement
              → Kept (policy nat_eq fresh world name call).world
          judged (Err deny) f = absurd (true≢false (sym (ap (λ (o : Outcome ℕ). not (is_ok o.answer))
              (call_is_judged_then_applied fresh world task call
              ∙ ap (λ j. after world j (apply nat_eq fresh world task)) f))
              ∙ (or_parts (only_looks call) (not (is_ok outcome.answer)) e).1))
          judged (Ok permit) f = subst Kept (sym (ap (λ (o : Outcome ℕ). o.world) same))
              (finished_keeps call is plain serves
              (ap (task_called world) (sym (name_found world name task found)) ∙ found) other few f name changed)

pub calls_keep_worlds : CallsKeepWorlds
calls_keep_worlds world fresh name call is plain serves other few = by (task_called world name) refl
  where
    by : (o : Option (Task ℕ)) → task_called world name ≡ o → Kept (policy nat_eq fresh world name call).world
    by None e = unchanged name call is plain serves other few (ap (λ o. (after world (ok_or o (denial S2))
        (λ t. finished nat_eq world name call (filesystems_changed_by nat_eq world (judge_in nat_eq fresh world t call))
        (call_outcome nat_eq fresh world t call))).world) e)
    by (Some task) e = called name call is plain serves other few task e
