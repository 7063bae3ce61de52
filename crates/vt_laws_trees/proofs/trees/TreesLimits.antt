-- No call breaks a limit of a task.
use Rattle.std.proofs.Common.{arith, ◌≡◌, refl, ◌∙◌, true≢false, ℕ, nat_eq, nat_le, Bool, true, false, not, cond, List, [], ◌∷◌, length, map, ◌+◌, Option, Some, None, ok_or, Ok, find}
use Rattle.vt_spec.proofs.Common.{Access, Call, Change, CopyUp, Fork, ForkWords, Fresh, Location, Mount, Outcome, Permit, Place, SetMark, Task, TaskName, ToOpen, TypeWord, World, all-filter, and_parts, apply, call_outcome, child_credentials, child_of, common_steps, deepest_first, deepest_name, denial, evens, finished_unless, folded, is_within_limits, lazily_unmounted, linking, list_all, looks_of, making, most_descriptors, most_forks, mount_at, mount_numbered, mount_tree, moving, namespace_entered, namespaces_ended, new_file, none_is_not, object_there, odds, open_new_permit, or_parts, overfills, pivoted, pivoted_location, pivoted_task, pwritten, raised, raised_task, removing, replaced_if_called, same_name, task_called, tasks-taken_away, tasks-with_change, tasks-without_replaced, unmounted, unmounted_if_there, unshared, with_change, with_copy, with_descriptor, with_new, with_task, with_type, without_descriptor, without_mounts_on, without_replaced, without_task}
use Rattle.vt_spec.specs.declared.errors.Rule.TheVariants.{S2}
use Rattle.vt_laws_trees.specs.Trees.Limits.{CallsKeepSmallTasks, HasSmallTasks, OpeningHasSmallTasks, names_few_groups}
use Rattle.vt_laws_trees.proofs.trees.TreesTasks.{all_appended, all_mapped, child_within, closed_within, masked_within, opened_within, parent_within, replaced_within}
use Rattle.vt_laws_trees.proofs.trees.TreesWalked.{after_holds, ok_same}
use Rattle.vt_spec.proofs.Worlds.{tasks-regrouped}
use Rattle.vt_laws_rules.proofs.given.CallsGranted.{call_holds}
use Rattle.vt_laws_rules.proofs.given.Ways.{IsGranted}
use Rattle.vt_laws_rules.proofs.given.Ways.IsGranted.{changes_directory, changes_mark, changes_mode, changes_owner, changes_root, changes_type, changes_umask, closes, creates, creates_exclusively, drops_capabilities, enters_namespace, exits, forks, makes_directory, makes_hard_link, makes_symlink, makes_whiteout, opens, opens_existing, overwrites_file, pivots_root, removes_directory, renames, unlinks, unmounts, unmounts_lazily, unshares, writes_new_file, writes_part}

-- Worlds with the same tasks
pub same_tasks : (a b : World ℕ) → a.tasks ≡ b.tasks → HasSmallTasks b → HasSmallTasks a
same_tasks a b same is = cc

pub lazily_tasks : (mounts : List (Mount ℕ)) (world : World ℕ)
    → (folded (unmounted_if_there nat_eq) world mounts).tasks ≡ world.tasks
lazily_tasks [] world = refl
lazily_tasks (mount ∷ mounts) world =
    grind (arith, common_steps, tasks-taken_away, lazily_tasks mounts (unmounted_if_there nat_eq world mount))

pub typed_tasks : (fresh : Fresh ℕ) (world : World ℕ) (number : ℕ) (word : TypeWord) (recursive : Bool)
    → (with_type nat_eq fresh world number word recursive).tasks ≡ world.tasks
typed_tasks fresh world number word recursive = grind (arith, common_steps, tasks-regrouped)

-- a task in the place of the one with its name
task_keeps : (world : World ℕ) (task : Task ℕ) → is_within_limits task ≡ true → HasSmallTasks world
    → HasSmallTasks (with_task world task)
task_keeps world task is small =
    all_mapped is_within_limits (replaced_if_called task) (λ old h. replaced_within task old is h) world.tasks small

ended_keeps : (world : World ℕ) → HasSmallTasks world → HasSmallTasks (namespaces_ended nat_eq world)
ended_keeps world small = same_tasks (namespaces_ended nat_eq world) world (tasks-taken_away world _) small

-- the task that is found is one of the world
found_within : (world : World ℕ) (name : TaskName) (list : List (Task ℕ)) (task : Task ℕ)
    → list_all is_within_limits list ≡ true
    → find (λ other. same_name name other.name) list ≡ Some task → is_within_limits task ≡ true
found_within world name [] task h e = none_is_not None task refl e
found_within world name (first ∷ list) task h e = by (same_name name first.name) e
    (λ g. found_within world name list task
    ((and_parts (is_within_limits first) (list_all is_within_limits list) h).1) g)
  where
    by : (b : Bool) → cond b (Some first) (find (λ other. same_name name other.name) list) ≡ Some task
        → (find (λ other. same_name name other.name) list ≡ Some task → is_within_limits task ≡ true)
        → is_within_limits task ≡ true
    by true g rest = cc ((and_parts (is_within_limits first) (list_all is_within_limits list) h).0)
    by false g rest = rest g

-- fork(2) names few groups
fork_given : (words : Option ForkWords) → names_few_groups (Fork words) ≡ true → (given : ForkWords)
    → words ≡ Some given → nat_le (length given.groups) 32 ≡ true
fork_given None few given e = none_is_not None given refl e
fork_given (Some words) few given e = cc (e, few)

module _ (fresh : Fresh ℕ) (world : World ℕ) (task : Task ℕ) (small : HasSmallTasks world)
    (is : is_within_limits task ≡ true) where
  change_small : (any : Fresh ℕ) (before : World ℕ) → before.tasks ≡ world.tasks
      → (location : Location ℕ) (change : Change ℕ) → HasSmallTasks (with_change nat_eq any before location change)
  change_small any before same location change = same_tasks (with_change nat_eq any before location change) world
      (tasks-with_change any before location change ∙ same) small

  written_small : (file : Location ℕ) (offset : ℕ) (bytes : List ℕ)
      → HasSmallTasks (pwritten nat_eq fresh world file offset bytes)
  written_small file offset [] = small
  written_small file offset (byte ∷ bytes) = change_small fresh world refl file _

  -- open(2): a descriptor more, where there is room
  abbrev HasRoom : Type 0
  HasRoom = nat_le most_descriptors (length task.descriptors) ≡ false

  opened_small : HasRoom → (after_call : World ℕ) → after_call.tasks ≡ world.tasks
      → (file : Location ℕ) (access : Access) → HasSmallTasks (with_task after_call (with_descriptor task file access))
  opened_small room after_call same file access =
      task_keeps after_call (with_descriptor task file access) (opened_within task file access is room)
      (same_tasks after_call world same small)

  copy_tasks : (b : Bool) (file : Location ℕ) → (with_copy nat_eq b fresh world file).tasks ≡ world.tasks
  copy_tasks true file = tasks-with_change fresh world file (CopyUp file.node)
  copy_tasks false file = refl

  open_small : HasRoom → (file : Location ℕ) (access : Access)
      → HasSmallTasks (apply nat_eq fresh world task (ToOpen file access)).world
  open_small room file access = opened_small room (with_copy nat_eq _ fresh world file) (copy_tasks _ file) file access

  create_small : HasRoom → (place : Place ℕ) (access : Access) (mode : ℕ)
      → HasSmallTasks (apply nat_eq fresh world task (open_new_permit task place access mode)).world
  create_small room place access mode = opened_small room (with_new nat_eq fresh world place (new_file task mode []))
      (tasks-with_change (odds fresh) world place.parent (making place (evens fresh 0) (new_file task mode [])))
      (record { mount = place.parent.mount; node = evens fresh 0 }) access

  pivoted_small : (root new : Mount ℕ) (put : Location ℕ)
      → HasSmallTasks (pivoted nat_eq world task.namespace root new put)
  pivoted_small root new put = all_mapped _ (pivoted_task nat_eq task.namespace root new) keeps world.tasks small
    where
      keeps : (other : Task ℕ) → is_within_limits other ≡ true
          → is_within_limits (pivoted_task nat_eq task.namespace root new other) ≡ true
      keeps other h = by (nat_eq task.namespace other.namespace)
        where
          by : (b : Bool) → is_within_limits (cond b (record other {
            root = pivoted_location nat_eq root new other.root;
            directory = pivoted_location nat_eq root new other.directory;
          }) other) ≡ true
          by true = h
          by false = h

  -- each way in which a call is granted
  granted_small : (call : Call) (permit : Permit ℕ) → names_few_groups call ≡ true
      → IsGranted nat_eq (looks_of nat_eq world) (overfills nat_eq fresh world task) task call permit
      → HasSmallTasks (apply nat_eq fresh world task permit).world
  granted_small call permit few (opens path access here room end passed) = open_small room.0 here.location access
  granted_small call permit few (opens_existing path access mode place file room end named there passed) =
      open_small room.0 file access
  granted_small call permit few (creates path access mode place room end named missing passed) =
      create_small room.0 place access mode
  granted_small call permit few (creates_exclusively path access mode place room end named passed) =
      create_small room.0 place access mode
  granted_small call permit few (overwrites_file path bytes place file end named there passed) =
      change_small fresh world refl file _
  granted_small call permit few (writes_new_file path bytes place end named missing fits passed) =
      change_small (odds fresh) world refl place.parent _
  granted_small call permit few (makes_directory path mode place end passed) =
      change_small (odds fresh) world refl place.parent _
  granted_small call permit few (makes_symlink text path place fits end passed) =
      change_small (odds fresh) world refl place.parent _
  granted_small call permit few (makes_whiteout path place end passed) =
      change_small (odds fresh) world refl place.parent _
  granted_small call permit few (makes_hard_link old new from place from_end end named passed) =
      change_small fresh world refl place.parent (linking from.location place)
  granted_small call permit few (unlinks path place end named passed) =
      change_small fresh world refl place.parent (removing place (object_there place))
  granted_small call permit few (removes_directory path place end word passed) =
      change_small fresh (without_mounts_on nat_eq world (object_there place)) (tasks-taken_away world _) place.parent
      (removing place (object_there place))
  granted_small call permit few (renames old new from to names two passed) =
      change_small fresh (without_replaced nat_eq world to.object) (tasks-without_replaced world to.object) from.parent
      (moving from to (object_there from))
  granted_small call permit few (changes_mode path mode here end passed) = change_small fresh world refl here.location _
  granted_small call permit few (changes_owner path uid gid here end passed) =
      change_small fresh world refl here.location _
  granted_small call permit few (changes_mark path mark here admin end passed) =
      change_small fresh world refl here.location (SetMark here.location.node mark)
  granted_small call permit few (writes_part number offset bytes descriptor found passed) =
      written_small descriptor.location offset bytes
  granted_small call permit few (closes number descriptor found) =
      task_keeps world (without_descriptor task number) (closed_within task number is) small
  granted_small call permit few (changes_directory path here end passed) =
      task_keeps world (record task { directory = here.location }) is small
  granted_small call permit few (changes_root path here capable end passed) =
      task_keeps world (record task { root = here.location }) is small
  granted_small call permit few (changes_umask mode) = task_keeps world _ (masked_within task mode is) small
  granted_small call permit few (drops_capabilities which) = task_keeps world _ is small
  granted_small call permit few (forks words passed) =
      let may = or_parts (nat_le most_forks task.forks) (nat_le deepest_name (length task.name)) passed.0 in
      all_appended is_within_limits (map (replaced_if_called (record task { forks = task.forks + 1 })) world.tasks)
      (child_of task (child_credentials task.credentials words))
      (task_keeps world (record task { forks = task.forks + 1 }) (parent_within task is may.0) small)
      (child_within task words is may.1 (fork_given words few))
  granted_small call permit few exits = ended_keeps (without_task world task.name)
      (all-filter is_within_limits (λ other. not (same_name task.name other.name)) world.tasks small)
  granted_small call permit few (unshares admin) =
      ended_keeps (unshared nat_eq world fresh task) (task_keeps world _ is small)
  granted_small call permit few (enters_namespace name namespace found capable) =
      ended_keeps (namespace_entered nat_eq world task namespace) (task_keeps world _ is small)
  granted_small call permit few (unmounts path here admin end passed) =
      same_tasks (unmounted nat_eq world here.location.mount) world (tasks-taken_away world _) small
  granted_small call permit few (unmounts_lazily path here admin end passed) =
      same_tasks (lazily_unmounted nat_eq world here.location.mount) world (lazily_tasks
      (deepest_first nat_eq world (mount_tree nat_eq world.mounts
      (mount_numbered nat_eq world here.location.mount))) world) small
  granted_small call permit few (changes_type path word recursive here admin end passed) =
      same_tasks (with_type nat_eq fresh world here.location.mount word recursive) world
      (typed_tasks fresh world here.location.mount word recursive) small
  granted_small call permit few (pivots_root new put root here admin root_end end passed) =
      pivoted_small (mount_at nat_eq world task.root) (mount_at nat_eq world root.location) here.location
  granted_small call permit few granted = small

  pub outcome_small : (call : Call) → names_few_groups call ≡ true
      → HasSmallTasks (call_outcome nat_eq fresh world task call).world
  outcome_small call few =
      call_holds HasSmallTasks fresh world task call small (λ permit granted. granted_small call permit few granted)

finished_small : (before : World ℕ) (name : TaskName) (changed : List ℕ) (outcome : Outcome ℕ) (b : Bool)
    → HasSmallTasks outcome.world → HasSmallTasks (finished_unless nat_eq b before name changed outcome).world
finished_small before name changed outcome true small = small
finished_small before name changed outcome false small = all_mapped _ (raised_task name) keeps outcome.world.tasks small
  where
    keeps : (other : Task ℕ) → is_within_limits other ≡ true → is_within_limits (raised_task name other) ≡ true
    keeps other h = by (same_name name other.name)
      where
        by : (b : Bool) → is_within_limits (cond b (record other { change = raised other.change }) other) ≡ true
        by true = h
        by false = h

found_task : (o : Option (Task ℕ)) (task : Task ℕ) → ok_or o (denial S2) ≡ Ok task → o ≡ Some task
found_task o task e = grind (arith, common_steps, true≢false, ok_same)

pub calls_keep_small_tasks : CallsKeepSmallTasks
calls_keep_small_tasks world fresh name call small few =
    after_holds HasSmallTasks world (ok_or (task_called world name) (denial S2)) _ small (λ task found.
    finished_small world name _ (call_outcome nat_eq fresh world task call) _ (outcome_small fresh world task small
    (found_within world name world.tasks task small (found_task (task_called world name) task found)) call few))

pub opening_has_small_tasks : OpeningHasSmallTasks
opening_has_small_tasks fresh = refl
