-- The descriptor of an open is on the file that is there, or with creat on a new one, which is empty.
use Rattle.std.proofs.Common.{arith, ◌≡◌, refl, sym, ap, subst, ◌∙◌, true≢false, ℕ, nat_eq, eq-eqb, true, false, cond, List, [], take, drop, Some, None, Ok, find, Bool}
use Rattle.vt_spec.proofs.Common.{Access, Answer, Bytes, Call, Creation, Descriptor, Exclusive, FileTree, Fresh, Here, IsWorld, Location, Looks, Make, NoCreation, Node, OpenFile, Opened, OrCreate, Permit, Place, Serves, Task, TaskName, ToOpen, World, apply, bytes_in, changed, common_steps, descriptor_numbered, directory_used, evens, file_walk, files_at, filesystem_numbered, free_number, is_directory_node, is_special, is_within_limits, looks_of, mount_at, mount_in, name_of, new_file, new_walk, node_at, node_with_entry, none_is_not, object_walk, odds, open_new_permit, opened, opens_for_reading, opens_for_writing, policy, raised_task, same_Some, same_name, task_called, tasks-with_change, with_descriptor, with_inode, with_new_inode, with_task}
use Rattle.vt_laws_later_calls.proofs.Common.{IsGranted, IsPlain, MayBeMade, SeesTo, among_from_list_all, called_there, creates, creates_exclusively, elsewhere, given_permits_are_seen_to, mounts-with_change, mounts_overlay, name_found, names_few_groups, opens_existing, unused_inode}
use Rattle.vt_laws_worlds.specs.Permits.Left.{IsGiven}
use Rattle.vt_laws_later_calls.specs.Later.{CreateThenPread, ExclusiveThenPread, OpenOrCreateThenPread, OpenThenPread, OpensFile, OpensNewFile, ReadsBy}
use Rattle.vt_laws_later_calls.proofs.Changed.{files_changed}
use Rattle.vt_laws_later_calls.proofs.Granted.{HasSucceeded, IsPermitted, has_succeeded}
use Rattle.vt_laws_later_calls.proofs.Opened.{called_replaced, descriptors_in_order, inserted_found, open_parts, open_spent, opened_number}
use Rattle.vt_laws_later_calls.proofs.Stays.{still_called, still_seen}
use Rattle.vt_laws_later_calls.proofs.Through.{descriptor_located, pread_of, raised_descriptors}
use Rattle.vt_laws_later_calls.proofs.Ways.{same_end}

-- A call that leaves a descriptor on a file, in a world that has the tasks of the one before
module _ {world : World ℕ} {fresh : Fresh ℕ} {name : TaskName} {path : List ℕ} {access : Access} {creation : Creation}
    {number : ℕ} (it : HasSucceeded world fresh name (OpenFile path access creation) (Opened number)) {task : Task ℕ}
    (called : task_called world name ≡ Some task) {base : World ℕ} (file : Location ℕ)
    (outcome : apply nat_eq fresh world it.did.task it.did.permit ≡ opened base task file access)
    (tasks : base.tasks ≡ world.tasks) where
  abbrev call : Call
  call = OpenFile path access creation

  abbrev later : World ℕ
  later = (policy nat_eq fresh world name call).world

  is_free : number ≡ free_number task
  is_free = opened_number (free_number task) number (cc (outcome, it.did.answered))

  abbrev new_task : Task ℕ
  new_task = with_descriptor task file access

  abbrev new_descriptor : Descriptor ℕ
  new_descriptor = record {
    number = free_number task;
    location = file;
    reads = opens_for_reading access;
    writes = opens_for_writing access;
  }

  spent : (apply nat_eq fresh world it.did.task it.did.permit).world ≡ with_task base new_task
  spent = cc outcome

  there : task_called (apply nat_eq fresh world it.did.task it.did.permit).world name ≡ Some new_task
  there = ap (λ w. task_called w name) spent
      ∙ called_replaced base name task new_task (ap (find (λ (t : Task ℕ). same_name name t.name)) tasks ∙ called)
      (sym (name_found world name task called))

  in_order : is_within_limits task ≡ true
  in_order = among_from_list_all is_within_limits world.tasks it.is.tasks.small_tasks task
      (called_there world.tasks name task called)

  found : descriptor_numbered new_task number ≡ Some new_descriptor
  found = ap (λ n. find (λ (d : Descriptor ℕ). nat_eq n d.number) new_task.descriptors) is_free
      ∙ inserted_found 0 task.descriptors new_descriptor (descriptors_in_order task in_order) refl

  -- what is at the file
  pub file_seen : node_at nat_eq later file ≡ node_at nat_eq base file
  file_seen = still_seen it name new_task there file
      (descriptor_located new_task number new_descriptor found) ∙ ap (λ w. node_at nat_eq w file) spent

  still : task_called later name ≡ Some (raised_task name new_task)
  still = still_called it name new_task there

  still_found : descriptor_numbered (raised_task name new_task) number ≡ Some new_descriptor
  still_found = cc (raised_descriptors name new_task, found)

  pub opens_file : OpensFile world fresh name task call file access number
  opens_file = grind (arith, common_steps, is_free, still, still_found)

  pub reads_by : ReadsBy world fresh name call access number (bytes_in (node_at nat_eq base file))
  reads_by reads offset size later_fresh = pread_of later later_fresh name
      (raised_task name new_task) new_descriptor number offset size still still_found reads
      ∙ ap (λ o. Ok (Bytes (take size (drop offset (bytes_in o))))) file_seen

-- What a granted open with creat was permitted
there_parts : (looks : Looks ℕ) {too_many : Permit ℕ → Bool} (task : Task ℕ) (path : List ℕ) (access : Access)
    (mode : ℕ) (place : Place ℕ) (file : Location ℕ) (permit : Permit ℕ)
    → file_walk nat_eq looks task path ≡ Ok place → place.object ≡ Some file
    → IsGranted nat_eq looks too_many task (OpenFile path access (OrCreate mode)) permit → permit ≡ ToOpen file access
there_parts looks task path access mode place file permit walk object
    (opens_existing _ _ _ other found room end named there passed) =
    let same : other ≡ place = same_end other place (cc) in
    cc (same_Some found file (sym there ∙ ap (λ (p : Place ℕ). p.object) same ∙ object))
there_parts looks task path access mode place file permit walk object
    (creates _ _ _ other room end named missing passed) =
    let same : other ≡ place = same_end other place (cc) in
    none_is_not None file refl (cc)

missing_parts : (looks : Looks ℕ) {too_many : Permit ℕ → Bool} (task : Task ℕ) (path : List ℕ) (access : Access)
    (mode : ℕ) (place : Place ℕ) (permit : Permit ℕ) → file_walk nat_eq looks task path ≡ Ok place → place.object ≡ None
    → IsGranted nat_eq looks too_many task (OpenFile path access (OrCreate mode)) permit
    → permit ≡ open_new_permit task place access mode
missing_parts looks task path access mode place permit walk object
    (opens_existing _ _ _ other found room end named there passed) =
    let same : other ≡ place = same_end other place (cc) in
    none_is_not None found refl (cc there)
missing_parts looks task path access mode place permit walk object (creates _ _ _ other room end named missing passed) =
    cc (same_end other place (sym end ∙ walk))

-- where a file was made that was not there
pub record NewFile (looks : Looks ℕ) (task : Task ℕ) (path : List ℕ) (access : Access) (mode : ℕ)
    (permit : Permit ℕ) : Type 0 where
  pub place : Place ℕ
  pub walk : new_walk nat_eq looks task path ≡ Ok place
  pub named : is_special place.last ≡ false
  pub no_slash : place.slash ≡ false
  pub permit_is : permit ≡ open_new_permit task place access mode

pub exclusive_parts : (looks : Looks ℕ) {too_many : Permit ℕ → Bool} (task : Task ℕ) (path : List ℕ) (access : Access)
    (mode : ℕ) (permit : Permit ℕ) → IsGranted nat_eq looks too_many task (OpenFile path access (Exclusive mode)) permit
    → NewFile looks task path access mode permit
exclusive_parts looks task path access mode permit (creates_exclusively _ _ _ place room end named passed) =
    record { place = place; walk = end; named = named.0; no_slash = named.1.0; permit_is = refl }

-- A new inode is as it was asked for
pub made_node : (files : FileTree ℕ) (directory : ℕ) (name : List ℕ) (number : ℕ) (node : Node ℕ)
    → is_directory_node (files.tree.node directory) ≡ true → files.tree.node number ≡ None
    → (changed nat_eq files (Make directory name number node)).tree.node number ≡ Some node
made_node files directory name number node is new =
    elsewhere (with_inode nat_eq files number node) directory (node_with_entry name number) number
    (λ same. true≢false (sym is ∙ ap (λ n. is_directory_node (files.tree.node n)) (sym same)
    ∙ ap is_directory_node new)) ∙ ap (λ b. cond b (Some node) (files.tree.node number)) (eq-eqb number number refl)

-- a call that was granted, in a world with its invariants, was given what it was permitted
pub given_of : (world : World ℕ) (fresh : Fresh ℕ) (name : TaskName) (call : Call) (answer : Answer)
    → Serves nat_eq world fresh → mounts_overlay call ≡ false → names_few_groups call ≡ true
    → (did : IsPermitted world fresh name call answer) → IsGiven fresh world did.task did.permit
given_of world fresh name call answer serves other few did = record {
  serves = serves;
  called = cc (name_found world name did.task did.called, did.called);
  call = call;
  no_overlay = other;
  few_groups = few;
  judged = did.judged;
}

-- what a permit to open a new file leaves at it
module _ {world : World ℕ} {fresh : Fresh ℕ} (is : IsWorld nat_eq world) (plain : IsPlain world)
    (serves : Serves nat_eq world fresh) {directory : Location ℕ} {name : List ℕ} {node : Node ℕ}
    (made : MayBeMade world directory name node) where
  abbrev pub made_world : World ℕ
  made_world = with_new_inode nat_eq fresh world directory name node

  abbrev pub made_at : Location ℕ
  made_at = record { mount = directory.mount; node = fresh 0 }

  pub made_tasks : made_world.tasks ≡ world.tasks
  made_tasks = tasks-with_change (odds fresh) world directory (Make directory.node name (evens fresh 0) node)

  pub made_seen : node_at nat_eq made_world made_at ≡ Some node
  made_seen = ap (λ mounts. (filesystem_numbered nat_eq made_world
      (mount_in nat_eq mounts directory.mount).filesystem).files.tree.node (fresh 0))
      (mounts-with_change world (odds fresh) directory (Make directory.node name (evens fresh 0) node))
      ∙ ap (λ (f : FileTree ℕ). f.tree.node (fresh 0))
      (files_changed (odds fresh) world plain directory (Make directory.node name (evens fresh 0) node)
      (directory_used (files_at nat_eq world directory).tree directory.node made.name_is_free.in_directory))
      ∙ made_node (files_at nat_eq world directory) directory.node name (fresh 0) node made.name_is_free.in_directory
      (unused_inode world fresh serves is.files.numbers 0 (mount_at nat_eq world directory).filesystem)

module _ {world : World ℕ} {fresh : Fresh ℕ} {name : TaskName} {path : List ℕ} {access : Access} {creation : Creation}
    {number : ℕ} (it : HasSucceeded world fresh name (OpenFile path access creation) (Opened number)) {task : Task ℕ}
    (called : task_called world name ≡ Some task) (mode : ℕ) (place : Place ℕ)
    (permit : it.did.permit ≡ open_new_permit task place access mode) where
  task_is : it.did.task ≡ task
  task_is = same_Some it.did.task task (cc it.did.called)

  seen_to : SeesTo world it.did.task it.did.permit
  seen_to = given_permits_are_seen_to world fresh it.did.task it.did.permit it.is
      (given_of world fresh name (OpenFile path access creation) (Opened number) it.serves refl refl it.did)

  may : MayBeMade world place.parent (name_of place.last) (new_file task mode [])
  may = (subst (SeesTo world it.did.task) permit seen_to).0

  abbrev base : World ℕ
  base = made_world it.is it.plain it.serves may

  abbrev new_place : Location ℕ
  new_place = record { mount = place.parent.mount; node = fresh 0 }

  outcome : apply nat_eq fresh world it.did.task it.did.permit ≡ opened base task new_place access
  outcome = cc task_is

  tasks : base.tasks ≡ world.tasks
  tasks = made_tasks it.is it.plain it.serves may

  seen : node_at nat_eq base new_place ≡ Some (new_file task mode [])
  seen = made_seen it.is it.plain it.serves may

  pub opens_new_file : OpensNewFile world fresh name task (OpenFile path access creation) place access mode number
  opens_new_file = (
    opens_file it called new_place outcome tasks,
    file_seen it called new_place outcome tasks ∙ seen,
    subst (ReadsBy world fresh name (OpenFile path access creation) access number) (cc seen)
        (reads_by it called new_place outcome tasks),
  )

pub open_then_pread : OpenThenPread
open_then_pread world fresh name task path access number is plain serves called granted = (
  here,
  cc (task_is, parts.1),
  opens_file it called here.location outcome refl,
  reads_by it called here.location outcome
      refl,
)
  where
    it : HasSucceeded world fresh name (OpenFile path access NoCreation) (Opened number)
    it = has_succeeded is plain serves refl refl refl granted

    task_is : it.did.task ≡ task
    task_is = same_Some it.did.task task (cc it.did.called)

    parts : (here : Here ℕ) × (object_walk nat_eq (looks_of nat_eq world) it.did.task path ≡ Ok here)
        × (it.did.permit ≡ ToOpen here.location access)
    parts = open_parts (looks_of nat_eq world) it.did.task path access it.did.permit it.did.granted

    here : Here ℕ
    here = parts.0

    outcome : apply nat_eq fresh world it.did.task it.did.permit ≡ opened world task here.location access
    outcome = cc (parts.2, open_spent fresh world plain it.did.task here.location access, task_is)

pub open_or_create_then_pread : OpenOrCreateThenPread
open_or_create_then_pread world fresh name task path access mode number place file is plain serves called walk object
    granted = (opens_file it called file outcome refl, reads_by it called file outcome refl)
  where
    it : HasSucceeded world fresh name (OpenFile path access (OrCreate mode)) (Opened number)
    it = has_succeeded is plain serves refl refl refl granted

    task_is : it.did.task ≡ task
    task_is = same_Some it.did.task task (cc it.did.called)

    outcome : apply nat_eq fresh world it.did.task it.did.permit ≡ opened world task file access
    outcome = ap (apply nat_eq fresh world it.did.task)
        (there_parts (looks_of nat_eq world) it.did.task path access mode place file it.did.permit
        (ap (λ t. file_walk nat_eq (looks_of nat_eq world) t path) task_is ∙ walk) object it.did.granted)
        ∙ open_spent fresh world plain it.did.task file access ∙ ap (λ t. opened world t file access) task_is

pub create_then_pread : CreateThenPread
create_then_pread world fresh name task path access mode number place is plain serves called walk object granted =
    opens_new_file it called mode place (cc (
      missing_parts (looks_of nat_eq world) it.did.task path access mode place
          it.did.permit (ap (λ t. file_walk nat_eq (looks_of nat_eq world) t path) task_is ∙ walk) object
          it.did.granted,
      task_is,
    ))
  where
    it : HasSucceeded world fresh name (OpenFile path access (OrCreate mode)) (Opened number)
    it = has_succeeded is plain serves refl refl refl granted

    task_is : it.did.task ≡ task
    task_is = same_Some it.did.task task (cc it.did.called)

pub exclusive_then_pread : ExclusiveThenPread
exclusive_then_pread world fresh name task path access mode number is plain serves called granted = (
  parts.place,
  cc (task_is, parts.walk),
  opens_new_file it called mode parts.place (cc (parts.permit_is, task_is)),
)
  where
    it : HasSucceeded world fresh name (OpenFile path access (Exclusive mode)) (Opened number)
    it = has_succeeded is plain serves refl refl refl granted

    task_is : it.did.task ≡ task
    task_is = same_Some it.did.task task (cc it.did.called)

    parts : NewFile (looks_of nat_eq world) it.did.task path access mode it.did.permit
    parts = exclusive_parts (looks_of nat_eq world) it.did.task path access mode it.did.permit it.did.granted
