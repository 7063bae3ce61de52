-- A task ends: _exit(2).
use Rattle.std.proofs.Common.{◌≡◌, refl, sym, ap, subst, ◌∙◌, inl, inr, ℕ, ◌+◌, nat_eq, Bool, true, false, cond, not, List, [], ◌∷◌, ◌++◌, map, Some, arith, fold}
use Rattle.vt_spec.proofs.Common.{Descriptor, Task, TaskName, ToExit, World, all_locations, and_parts, flat_map-append, folded, has_tasks, is_located_well, list_all, list_any, locations_of, map_twice, namespaces_ended, opens_for_writing, or_parts, same_Some, same_name, task_called}
use Rattle.vt_spec.specs.Machine.Mounts as meant
use Rattle.vt_mounting.proofs.Common.{Among, CountsWhatIsInIt, Filesystems, Grouping, IsHeld, MountEntry, NamespaceEntry, Tasks, WorldValue, among-append_left, among-append_right, among-map, among_from_all, among_from_list_all, called, counted, is_small_node, location_of, locations_in, namespace_of, number_of, one_if, times, world_of, writes_of_task, writes_on}
use Rattle.vt_location.specs.declared.locations.Location.{Location}
use Rattle.vt_request.specs.Requests.{access_of}
use Rattle.vt_tasks.specs.declared.descriptors.OpenFile.{OpenFile}
use Rattle.vt_tasks.specs.declared.task.Task.{Task as Held}
use Rattle.vt_tasks.specs.TaskValue.{task_of}
use Rattle.vt_tasks.specs.TasksValue.{AreNamedApart, without_called}
use Rattle.vt_tasks.proofs.GivenOnce.{name-of-called, same_task_name}
use Rattle.vt_tasks.proofs.LocationLemmas.{total-without, without-nobody}
use Rattle.vt_mounting.specs.Detach.Events.{Permits}
use Rattle.vt_mounting.specs.Detach.NamespacesLeft.{MountsAreLeft, is_small_file, namespace_entry, with_one_task_less, without_file}
use Rattle.vt_mounting.specs.Detach.Uses.{Kept, Merged, kept_of, kept_with, overlays_kept, without_location, without_use}
use Rattle.vt_mounting.proofs.detach.Closing.{place_of, used_by}
use Rattle.vt_mounting.proofs.detach.Departing.{departs}
use Rattle.vt_mounting.proofs.detach.LocationsSeen.{seen_where_located}
use Rattle.vt_mounting.proofs.detach.MidwayDone.{leave_use}
use Rattle.vt_mounting.proofs.detach.Moving.{Moves, Use, locations, writes_on_mount}
use Rattle.vt_mounting.proofs.detach.NamespacesEnded.{CountsOneMore, tasks_counted}
use Rattle.vt_mounting.proofs.detach.Places.{standing}
use Rattle.vt_mounting.proofs.detach.Shown.{counted_eq_back}
use Rattle.vt_mounting.proofs.detach.Splits.{locations_around, times_total, writes_total}
use Rattle.vt_mounting.proofs.detach.Staying.{IsDone}

-- one task goes
pub record GoesOne (task : Task ℕ) (tasks after : Tasks) : Type 0 where
  pub front : Tasks
  pub back : Tasks
  pub was : tasks ≡ front ++ (task ∷ back)
  pub is : after ≡ front ++ back

-- just the task of the name goes out of the tasks
pub one_goes_out : (name : TaskName) (tasks : Tasks) (task : Task ℕ) → AreNamedApart tasks
    → called name tasks ≡ Some task → GoesOne task tasks (without_called name tasks)
one_goes_out name [] task apart found = absurd cc
one_goes_out name (first ∷ tasks) task apart found =
    let parts = or_parts (list_any (λ (other : Task ℕ). same_name first.name other.name) tasks) _ apart in
    by (same_name name first.name) refl found parts.0 (one_goes_out name tasks task parts.1)
  where
    by : (b : Bool) → same_name name first.name ≡ b → cond b (Some first) (called name tasks) ≡ Some task
        → list_any (λ (other : Task ℕ). same_name first.name other.name) tasks ≡ false
        → (called name tasks ≡ Some task → GoesOne task tasks (without_called name tasks))
        → GoesOne task (first ∷ tasks) (cond (not b) (first ∷ without_called name tasks) (without_called name tasks))
    by true e here others later = record {
      front = [];
      back = tasks;
      was = ap (λ one. one ∷ tasks) (same_Some first task here);
      is = without-nobody name tasks
          (ap (λ own. list_any (λ (other : Task ℕ). same_name own other.name) tasks) (same_task_name name first.name e)
          ∙ others);
    }
    by false e here others later = let goes = later here in record {
      front = first ∷ goes.front;
      back = goes.back;
      was = ap (λ all. first ∷ all) goes.was;
      is = ap (λ all. first ∷ all) goes.is;
    }

-- the uses of a task
abbrev pub uses_of_task : Task ℕ → List Use
uses_of_task task = standing task.root ∷ standing task.directory ∷ map used_by task.descriptors

-- a task uses its locations
pub uses_are_locations : (task : Task ℕ) → locations (uses_of_task task) ≡ locations_of task
uses_are_locations task = ap (λ places. task.root ∷ task.directory ∷ places)
    (map_twice (λ (u : Use). u.location) used_by task.descriptors)

files_write : (mount : ℕ) (descriptors : List (Descriptor ℕ))
    → times (writes_on_mount mount) (map used_by descriptors) ≡ times (writes_on mount) descriptors
files_write mount [] = refl
files_write mount (d ∷ ds) = ap (λ rest. cond (writes_on mount d) 1 0 + rest) (files_write mount ds)

module _ {value : WorldValue} (whole : IsHeld value) (name : TaskName) {task : Task ℕ}
    (found : task_called (world_of value) name ≡ Some task) where
  abbrev world : World ℕ
  world = world_of value

  abbrev tasks : Tasks
  tasks = without_called name value.tasks

  abbrev goes : GoesOne task value.tasks tasks
  goes = one_goes_out name value.tasks task whole.in_world.tasks.one_task found

  -- the tasks without it use its locations no more
  pub exit_moves : Moves value tasks [] (uses_of_task task)
  exit_moves = record {
    front = locations_in goes.front;
    back = locations_in goes.back;
    was = ap locations_in goes.was ∙ locations_around goes.front task goes.back
        ∙ ap (λ own. locations_in goes.front ++ (own ++ locations_in goes.back)) (sym (uses_are_locations task));
    is = ap locations_in goes.is ∙ flat_map-append locations_of goes.front goes.back;
    there = refl;
    writes = λ mount.
        let one = total-without (writes_of_task mount) name value.tasks task whole.in_world.tasks.one_task found in
        let was = writes_total mount value.tasks in
        let is = writes_total mount tasks in
        let files = files_write mount task.descriptors in
        omega (arith, one, was, is, files);
  }

  -- the namespaces
  pub exit_counts : (count : ℕ) → task.namespace ≡ counted count → (entry : NamespaceEntry)
      → Among entry value.namespaces → CountsOneMore count tasks entry
  exit_counts count its entry m =
      let had = (among_from_all (CountsWhatIsInIt world) value.namespaces whole.namespaces entry m).tasks in
      let one = total-without (λ (other : Task ℕ). one_if
      (nat_eq (counted entry.count) other.namespace)) name value.tasks task whole.in_world.tasks.one_task found in
      let was = times_total (λ (other : Task ℕ). nat_eq (counted entry.count) other.namespace) value.tasks in
      let is = times_total (λ (other : Task ℕ). nat_eq (counted entry.count) other.namespace) tasks in
      let own : one_if (nat_eq (counted entry.count) task.namespace) ≡ cond (nat_eq count entry.count) 1 0 =
      ap (λ n. one_if (nat_eq (counted entry.count) n)) its ∙ ap one_if (counted_eq_back entry.count count) in
      record {
        inside = omega (arith, had, one, was, is, own);
        some = ap (λ n. nat_eq n 0) had ∙ tasks_counted (counted entry.count) value.tasks
            (among_from_list_all (has_tasks nat_eq world) world.namespaces whole.in_world.namespaces.namespaces_live
            (namespace_of entry) (among-map namespace_of value.namespaces entry m));
      }

  -- a location of the task is there
  pub located : (location : meant.Location ℕ) → Among location (locations_of task)
      → is_located_well nat_eq world location ≡ true
  located location m =
      among_from_list_all (is_located_well nat_eq world) (all_locations world) whole.in_world.tasks.locations_live
      location
      (subst (λ all. Among location all) (sym (ap locations_in goes.was ∙ locations_around goes.front task goes.back))
      (among-append_right (locations_in goes.front) (locations_of task ++ locations_in goes.back) location
      (among-append_left (locations_of task) (locations_in goes.back) location m)))

-- code leaves what the definitions name
pub left_so : {value : WorldValue} → IsHeld value → (at : Location) (writes : Bool) (k : Kept)
    → is_small_node at.node ≡ true → is_located_well nat_eq (world_of value) (location_of at) ≡ true
    → without_location at writes k
    ≡ leave_use (world_of value) k (record { location = location_of at; writes = writes })
left_so {value} whole at writes k few well = λ i. without_use (counted at.mount.count)
    (sym (seen_where_located value whole at few well) i, number_of at.node) writes k

-- closing its files takes away the uses of its descriptors
pub files_left_so : {value : WorldValue} → IsHeld value
    → (files : List OpenFile) (descriptors : List (Descriptor ℕ)) (k : Kept)
    → map (λ (file : OpenFile). location_of file.location) files ≡ map (λ (d : Descriptor ℕ). d.location) descriptors
    → map (λ (file : OpenFile). opens_for_writing (access_of file.access)) files
    ≡ map (λ (d : Descriptor ℕ). d.writes) descriptors → list_all is_small_file files ≡ true
    → ((location : meant.Location ℕ) → Among location (map place_of descriptors)
    → is_located_well nat_eq (world_of value) location ≡ true)
    → fold without_file k files ≡ folded (leave_use (world_of value)) k (map used_by descriptors)
files_left_so whole [] [] k places writes slots well = refl
files_left_so whole [] (d ∷ ds) k places writes slots well = absurd cc
files_left_so whole (file ∷ files) [] k places writes slots well = absurd cc
files_left_so {value} whole (file ∷ files) (d ∷ ds) k places writes slots well =
    let at : location_of file.location ≡ d.location = cc in
    let rest : map (λ (file : OpenFile). location_of file.location) files
    ≡ map (λ (d : Descriptor ℕ). d.location) ds = cc in
    let write : opens_for_writing (access_of file.access) ≡ d.writes = cc in
    let later : map (λ (file : OpenFile). opens_for_writing (access_of file.access)) files
    ≡ map (λ (d : Descriptor ℕ). d.writes) ds = cc in
    let few = and_parts (is_small_file file) (list_all is_small_file files) slots in
    let here : without_file k file ≡ leave_use (world_of value) k (used_by d) =
    left_so whole file.location (opens_for_writing (access_of file.access)) k few.0
    (ap (is_located_well nat_eq (world_of value)) at ∙ well d.location (inl refl))
    ∙ (λ i. leave_use (world_of value) k (record { location = at i; writes = write i })) in
    cc (files_left_so whole files ds (leave_use (world_of value) k (used_by d)) rest later few.1 (λ location m. well
    location (inr m)))

-- what code leaves of a task
pub record LeavesAll (old : Kept) (task : Held) (files : List OpenFile) (left : Kept) : Type 0 where
  pub root : is_small_node task.root.node ≡ true
  pub directory : is_small_node task.directory.node ≡ true
  pub slots : list_all is_small_file files ≡ true
  pub places : map (λ (file : OpenFile). location_of file.location) files
      ≡ map (λ (d : Descriptor ℕ). d.location) (task_of task).descriptors
  pub writes : map (λ (file : OpenFile). opens_for_writing (access_of file.access)) files
      ≡ map (λ (d : Descriptor ℕ). d.writes) (task_of task).descriptors
  pub is : left ≡ fold without_file (without_location task.directory false (without_location task.root false old)) files

-- A task exits, and what it alone used is let go.
pub task_exits : (value : WorldValue) (name : TaskName) (task : Held) (files : List OpenFile) (left : Kept)
    (mounts : List MountEntry) (groups : Grouping) (filesystems : Filesystems) (overlays : List Merged)
    (namespaces : List NamespaceEntry) (left_tasks : Tasks)
    → IsHeld value → Permits value name ToExit → Some (task_of task) ≡ called name value.tasks
    → left_tasks ≡ without_called name value.tasks → LeavesAll (kept_of value) task files left
    → namespaces ≡ with_one_task_less task.namespace.count value.namespaces
    → MountsAreLeft (counted task.namespace.count)
    (namespace_entry task.namespace.count value.namespaces) left value.groups
    (kept_with mounts filesystems overlays) groups → IsDone value name ToExit (record value {
      mounts = mounts;
      groups = groups;
      filesystems = filesystems;
      overlays = overlays_kept overlays value.overlays;
      namespaces = namespaces;
      tasks = left_tasks;
    })
task_exits value name task files left mounts groups filesystems overlays namespaces left_tasks whole permits found are leaves namespaces_are mounts_are =
    let meant_task = task_of task in
    let called_so : task_called (world_of value) name ≡ Some meant_task = sym found in
    let count = task.namespace.count in
    let well = located whole name called_so in
    let k = kept_of value in
    let left_is : left ≡ folded (leave_use (world_of value)) k (uses_of_task meant_task) = leaves.is
    ∙ files_left_so whole files meant_task.descriptors (without_location task.directory false
    (without_location task.root false k)) leaves.places leaves.writes leaves.slots
    (λ location m. well location (inr (inr m)))
    ∙ ap (λ one. folded (leave_use (world_of value)) one (map used_by meant_task.descriptors))
    (left_so whole task.directory false (without_location task.root false k) leaves.directory
    (well (location_of task.directory) (inr (inl refl)))
    ∙ ap (λ one. leave_use (world_of value) one (standing meant_task.directory))
    (left_so whole task.root false k leaves.root (well (location_of task.root) (inl refl)))) in
    subst (λ all. IsDone value name ToExit (record value {
      mounts = mounts;
      groups = groups;
      filesystems = filesystems;
      overlays = overlays_kept overlays value.overlays;
      namespaces = namespaces;
      tasks = all;
    })) (sym are) (departs (record {
      whole = whole;
      moves = exit_moves whole name called_so;
      counts = record { each = (exit_counts whole name called_so count refl) };
      same_namespaces = refl;
    }) filesystems overlays namespaces_are (record {
      called = called_so;
      given = subst (λ one. Rattle.vt_laws_worlds.specs.Permits.Left.IsGiven
          (Rattle.vt_mounting.specs.Detach.Events.supply_of value ToExit) (world_of value) one ToExit)
          (same_Some permits.task meant_task (sym permits.called ∙ called_so)) permits.given;
      named = refl;
      applied = λ fresh. ap (λ own. namespaces_ended nat_eq (Rattle.vt_spec.specs.Machine.World.without_task
          (world_of value) own)) (name-of-called name value.tasks meant_task called_so);
    }) mounts groups
    (subst (λ one. MountsAreLeft (counted count) (namespace_entry count value.namespaces) one value.groups
    (kept_with mounts filesystems overlays) groups) left_is mounts_are))
