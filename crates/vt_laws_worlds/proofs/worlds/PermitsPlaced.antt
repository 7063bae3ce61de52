-- A permit that fits leaves each task on directories that are there, with regular files open.
use Rattle.std.proofs.Common.{◌≡◌, refl, sym, ap, subst, ◌∙◌, ⊎_elim, ℕ, nat_eq, true, false, not, List, [], ◌∷◌, Some, is_some, map, unwrap_or, ◌+◌, ◌==◌}
use Rattle.vt_spec.proofs.Common.{Access, Descriptor, Fresh, IsWorld, Location, Make, Move, Node, Overlay, Permit, Remove, Serves, Task, ToBind, ToChange, ToClose, ToEnterNamespace, ToExit, ToFork, ToMake, ToMountOverlay, ToMountPlain, ToMove, ToOpen, ToOpenNew, ToPivot, ToRemoveDirectory, ToRename, ToSetCredentials, ToSetDirectory, ToSetFlags, ToSetRoot, ToSetType, ToSetUmask, ToUnmount, ToUnmountLazily, ToUnshare, ToWritePart, World, among-append, among-from_filter, among-from_map, and_from, and_parts, apply, child_of, entered_at, evens, filesystem_at, going, holds_of, is_copied_up, is_kind, kind_of, mount_at, mount_numbered, mounts_of, namespace_entered, namespace_root, namespaces_ended, node_at, numbers_by, odds, overlay_or, pivoted_task, replaced_if_called, same_name, task_called, tasks-taken_away, tasks-with_change, tasks-without_replaced, unshared, unshared_task, with_descriptor, without_descriptor, without_mounts_on, without_replaced, without_task, ⊤}
use Rattle.vt_spec.specs.declared.attributes.Kind.TheVariants.{File}
use Rattle.vt_laws_mounts.specs.Mounts.Attaching.{is_mount}
use Rattle.vt_laws_mounts.proofs.mounts.MountsRetyped.{types_are_of_mounts}
use Rattle.vt_laws_mounts.proofs.ends.UnmountingEnds.{lazy_is_of_mounts}
use Rattle.vt_laws_trees.proofs.calls.tasks.TasksOwn.{among-inserted}
use Rattle.vt_laws_trees.proofs.runs.answered.PlainStays.{plain_numbered}
use Rattle.vt_laws_worlds.specs.Worlds.Kept.{IsPlain, KeptByPermits}
use Rattle.vt_laws_worlds.specs.Worlds.Permits.{IsFitPermit, IsReachedDirectory, NamesWhatIsThere}
use Rattle.vt_laws_worlds.specs.Worlds.Tasks.{LocationsAreThere, OpenFilesAreRegular, TasksStandOnDirectories}
use Rattle.vt_laws_worlds.proofs.worlds.PermitsSeen.{elsewhere, gone_on, namespaces_ended_seen, new_at, odds_are_new, permits_keep_what_is_seen, unshared_seen}
use Rattle.vt_laws_worlds.proofs.worlds.Placed.{ArePlaced, IsPlaced, OpensAt, StandsAt, all_are_placed, all_placed_after, locations_are_there, open_files_are_regular, opens_after, placed_after, placed_with, stands_after, tasks_stand_on_directories}
use Rattle.vt_laws_worlds.proofs.worlds.Roots.{namespace_root_stands, own_there, in_own, pivoted_placed, root_stands, unshared_placed}
use Rattle.vt_laws_worlds.proofs.worlds.Seen.{KeepsWhatIsSeen, kind_is, kind_seen, seen_alike, there_is}
use Rattle.vt_laws_worlds.proofs.worlds.SeenMerges.{new_inode_seen}
use Rattle.vt_laws_trees.proofs.trees.TreesTasks.{called_there, tasks-with_copy, tasks-pwritten}

-- where a walk led
pub reached_stands : (world : World ℕ) (task : Task ℕ) (location : Location ℕ) → IsReachedDirectory world task location
    → StandsAt world task.namespace location
reached_stands world task location is =
    record { located = is.reached.there; directory = is.directory; inside = is.reached.seen }

same_tasks : (world : World ℕ) (a b : List (Task ℕ)) → a ≡ b → ArePlaced world b → ArePlaced world a
same_tasks world a b same = subst (ArePlaced world) (sym same)

-- a task with a further file open
opened_placed : (world : World ℕ) (task : Task ℕ) (file : Location ℕ) (access : Access) → IsPlaced world task
    → OpensAt world file → IsPlaced world (with_descriptor task file access)
opened_placed world task file access at opens = record {
  root = at.root;
  directory = at.directory;
  files = λ descriptor m.
      ⊎_elim (λ e. subst (λ (d : Descriptor ℕ). OpensAt world d.location) (sym e) opens) (at.files descriptor)
      (among-inserted _ task.descriptors descriptor m);
}

-- A new file is made where there is a layer to write to: EROFS of open(2)
abbrev pub HasLayerToWrite : World ℕ → Permit ℕ → Type 0
HasLayerToWrite world (ToOpenNew directory name node access) =
    overlay_or false (λ (overlay : Overlay ℕ). not (is_some overlay.upper))
    (filesystem_at nat_eq world directory).overlay ≡ false
HasLayerToWrite world permit = ⊤

module _ {world : World ℕ} {fresh : Fresh ℕ} {task : Task ℕ} (is : IsWorld nat_eq world)
    (serves : Serves nat_eq world fresh) (called : task_called world task.name ≡ Some task) where
  abbrev after : Permit ℕ → World ℕ
  after permit = (apply nat_eq fresh world task permit).world

  all_placed : ArePlaced world world.tasks
  all_placed = all_are_placed world is.tasks.locations_live is.tasks.directories is.tasks.open_files

  placed : IsPlaced world task
  placed = all_placed task (called_there world.tasks task.name task called)

  abbrev Fits : Permit ℕ → Type 0
  Fits permit = NamesWhatIsThere world task permit

  seen : (permit : Permit ℕ) → Fits permit → KeepsWhatIsSeen world (after permit)
  seen permit fits = permits_keep_what_is_seen world fresh task is serves permit fits

  -- the tasks are those that were there
  unchanged : (permit : Permit ℕ) → Fits permit → (after permit).tasks ≡ world.tasks
      → ArePlaced (after permit) (after permit).tasks
  unchanged permit fits same = same_tasks (after permit) (after permit).tasks world.tasks same
      (all_placed_after world (after permit) (seen permit fits) world.tasks all_placed)

  -- one task is another
  changed_task : (permit : Permit ℕ) (fits : Fits permit) (new : Task ℕ)
      → (after permit).tasks ≡ map (replaced_if_called new) world.tasks → IsPlaced (after permit) new
      → ArePlaced (after permit) (after permit).tasks
  changed_task permit fits new same at =
      same_tasks (after permit) (after permit).tasks (map (replaced_if_called new) world.tasks) same
      (placed_with (after permit) new world.tasks
      (all_placed_after world (after permit) (seen permit fits) world.tasks all_placed) at)

  placed_still : (permit : Permit ℕ) → Fits permit → IsPlaced (after permit) task
  placed_still permit fits = placed_after world (after permit) (seen permit fits) task placed

  -- namespaces end after the tasks changed
  ended : (middle : World ℕ) → ArePlaced middle middle.tasks
      → ArePlaced (namespaces_ended nat_eq middle) (namespaces_ended nat_eq middle).tasks
  ended middle at = same_tasks (namespaces_ended nat_eq middle) (namespaces_ended nat_eq middle).tasks middle.tasks
      (tasks-taken_away middle _)
      (all_placed_after middle (namespaces_ended nat_eq middle) (namespaces_ended_seen middle) middle.tasks at)

  -- a new file is open
  new_file_opens : (directory : Location ℕ) (name : List ℕ) (node : Node ℕ) (access : Access)
      → Fits (ToOpenNew directory name node access) → HasLayerToWrite world (ToOpenNew directory name node access)
      → OpensAt (after (ToOpenNew directory name node access))
      (record { mount = directory.mount; node = evens fresh 0 })
  new_file_opens directory name node access fits writes =
      let permit = ToOpenNew directory name node access in
      let location : Location ℕ = record { mount = directory.mount; node = evens fresh 0 } in
      let kind : kind_seen (node_at nat_eq (after permit) location) ≡ Some (kind_of node.content) =
      new_inode_seen (odds fresh) world (elsewhere world fresh task is serves) (odds_are_new world fresh task is serves)
      directory name (evens fresh 0) node fits.0.directory writes (new_at world fresh task is serves directory) in
      let listed : is_mount world directory.mount ≡ true =
      (and_parts (is_mount world directory.mount) (is_some (node_at nat_eq world directory)) fits.0.reached.there).0 in
      record {
        located = and_from (is_mount (after permit) directory.mount) (is_some (node_at nat_eq (after permit) location))
            ((seen permit fits).listed directory.mount listed)
            (there_is (node_at nat_eq (after permit) location) ∙ ap (holds_of (λ k. true)) kind);
        regular = kind_is File (node_at nat_eq (after permit) location) ∙ ap (holds_of (is_kind File)) kind ∙ fits.1;
      }

  pub permits_keep_tasks_placed : (permit : Permit ℕ) → Fits permit → HasLayerToWrite world permit
      → ArePlaced (after permit) (after permit).tasks
  permits_keep_tasks_placed (ToChange location change) fits writes =
      unchanged (ToChange location change) fits (tasks-with_change fresh world location change)
  permits_keep_tasks_placed (ToMake directory name node) fits writes = unchanged (ToMake directory name node) fits
      (tasks-with_change (odds fresh) world directory (Make directory.node name (evens fresh 0) node))
  permits_keep_tasks_placed (ToRemoveDirectory parent name directory) fits writes =
      unchanged (ToRemoveDirectory parent name directory) fits
      (tasks-with_change fresh (without_mounts_on nat_eq world directory) parent
      (Remove parent.node name directory.node) ∙ tasks-taken_away world (gone_on world directory))
  permits_keep_tasks_placed (ToRename from old to new object replaced) fits writes =
      unchanged (ToRename from old to new object replaced) fits
      (tasks-with_change fresh (without_replaced nat_eq world replaced) from
      (Move from.node old to.node new object.node) ∙ tasks-without_replaced world replaced)
  permits_keep_tasks_placed (ToOpen file access) fits writes =
      let permit = ToOpen file access in
      changed_task permit fits (with_descriptor task file access)
      (ap (map (replaced_if_called (with_descriptor task file access)))
      (tasks-with_copy fresh world (is_copied_up nat_eq world file access) file))
      (opened_placed (after permit) task file access (placed_still permit fits)
      (opens_after world (after permit) (seen permit fits) file
      (record { located = fits.reached.there; regular = fits.regular })))
  permits_keep_tasks_placed (ToOpenNew directory name node access) fits writes =
      let permit = ToOpenNew directory name node access in
      let file : Location ℕ = record { mount = directory.mount; node = evens fresh 0 } in
      changed_task permit fits (with_descriptor task file access)
      (ap (map (replaced_if_called (with_descriptor task file access))) (tasks-with_change (odds fresh) world directory
      (Make directory.node name (evens fresh 0) node)))
      (opened_placed (after permit) task file access (placed_still permit fits)
      (new_file_opens directory name node access fits writes))
  permits_keep_tasks_placed (ToWritePart file offset bytes) fits writes =
      unchanged (ToWritePart file offset bytes) fits (tasks-pwritten fresh world file offset bytes)
  permits_keep_tasks_placed (ToClose descriptor) fits writes =
      let permit = ToClose descriptor in
      let still = placed_still permit fits in
      changed_task permit fits (without_descriptor task descriptor) refl (record {
        root = still.root;
        directory = still.directory;
        files = λ d m. still.files d
            (among-from_filter (λ (x : Descriptor ℕ). not (descriptor == x.number)) task.descriptors d m).0;
      })
  permits_keep_tasks_placed (ToSetDirectory directory) fits writes =
      let permit = ToSetDirectory directory in
      let still = placed_still permit fits in
      changed_task permit fits (record task { directory = directory }) refl (record {
        root = still.root;
        directory = stands_after world (after permit) (seen permit fits) task.namespace directory
            (reached_stands world task directory fits);
        files = still.files;
      })
  permits_keep_tasks_placed (ToSetRoot root) fits writes =
      let permit = ToSetRoot root in
      let still = placed_still permit fits in
      changed_task permit fits (record task { root = root }) refl (record {
        root = stands_after world (after permit) (seen permit fits) task.namespace root
            (reached_stands world task root fits);
        directory = still.directory;
        files = still.files;
      })
  permits_keep_tasks_placed (ToSetUmask umask) fits writes =
      let still = placed_still (ToSetUmask umask) fits in
      changed_task (ToSetUmask umask) fits (record task { umask = umask }) refl
      (record { root = still.root; directory = still.directory; files = still.files })
  permits_keep_tasks_placed (ToSetCredentials credentials) fits writes =
      let still = placed_still (ToSetCredentials credentials) fits in
      changed_task (ToSetCredentials credentials) fits (record task { credentials = credentials }) refl
      (record { root = still.root; directory = still.directory; files = still.files })
  permits_keep_tasks_placed (ToFork credentials) fits writes =
      let permit = ToFork credentials in
      let still = placed_still permit fits in
      let parent = record task { forks = task.forks + 1 } in
      let child = child_of task credentials in
      let parents = placed_with (after permit) parent world.tasks
      (all_placed_after world (after permit) (seen permit fits) world.tasks all_placed)
      (record { root = still.root; directory = still.directory; files = still.files }) in
      λ other m. ⊎_elim (parents other) (λ new. ⊎_elim (λ e. subst (IsPlaced (after permit)) (sym e)
      (record { root = still.root; directory = still.directory; files = λ d n. absurd n })) (λ none. absurd none) new)
      (among-append (map (replaced_if_called parent) world.tasks) (child ∷ []) other m)
  permits_keep_tasks_placed ToExit fits writes =
      let left = without_task world task.name in
      ended left (λ other m.
      all_placed_after world left (seen_alike world left refl refl) world.tasks all_placed other
      (among-from_filter (λ (x : Task ℕ). not (same_name task.name x.name)) world.tasks other m).0)
  permits_keep_tasks_placed ToUnshare fits writes =
      let copied = unshared nat_eq world fresh task in
      ended copied (placed_with copied (unshared_task nat_eq (mounts_of nat_eq world task.namespace)
      (numbers_by nat_eq (odds fresh) (mounts_of nat_eq world task.namespace)) (evens fresh 0) task) world.tasks
      (all_placed_after world copied (unshared_seen world fresh task) world.tasks all_placed)
      (unshared_placed world fresh task is serves placed))
  permits_keep_tasks_placed (ToEnterNamespace namespace) fits writes =
      let entered = namespace_entered nat_eq world task namespace in
      let same_world = seen_alike world entered refl refl in
      let root = unwrap_or (namespace_root nat_eq world namespace) task.root in
      let at = stands_after world entered same_world namespace root
      (namespace_root_stands world is namespace task fits) in
      let still = placed_after world entered same_world task placed in
      ended entered (placed_with entered (entered_at task namespace root) world.tasks
      (all_placed_after world entered same_world world.tasks all_placed)
      (record { root = at; directory = at; files = still.files }))
  permits_keep_tasks_placed (ToMountPlain place flags) fits writes = unchanged (ToMountPlain place flags) fits refl
  permits_keep_tasks_placed (ToMountOverlay place overlay flags) fits writes = absurd fits
  permits_keep_tasks_placed (ToBind source place recursive) fits writes =
      unchanged (ToBind source place recursive) fits refl
  permits_keep_tasks_placed (ToMove mount place) fits writes = unchanged (ToMove mount place) fits refl
  permits_keep_tasks_placed (ToUnmount mount) fits writes =
      unchanged (ToUnmount mount) fits (tasks-taken_away world (going nat_eq world (mount_numbered nat_eq world mount)))
  permits_keep_tasks_placed (ToUnmountLazily mount) fits writes =
      unchanged (ToUnmountLazily mount) fits (lazy_is_of_mounts world mount).tasks
  permits_keep_tasks_placed (ToSetFlags mount flags) fits writes = unchanged (ToSetFlags mount flags) fits refl
  permits_keep_tasks_placed (ToSetType mount word recursive) fits writes =
      unchanged (ToSetType mount word recursive) fits (types_are_of_mounts world fresh mount word recursive).tasks
  permits_keep_tasks_placed (ToPivot new put) fits writes =
      let permit = ToPivot new put in
      let root = mount_at nat_eq world task.root in
      let top = mount_numbered nat_eq world new in
      let at_new = root_stands world is task.namespace top (own_there world is new task.namespace fits.own)
      (in_own task.namespace top fits.own) in
      λ other m.
      let from = among-from_map (pivoted_task nat_eq task.namespace root top) world.tasks other m in
      subst (IsPlaced (after permit)) (sym from.2) (pivoted_placed (seen permit fits) root top at_new from.0
      (all_placed from.0 from.1))
  permits_keep_tasks_placed permit fits writes = all_placed

-- So the invariants of locations, of where tasks stand, and of open files are kept.
module _ (world : World ℕ) (fresh : Fresh ℕ) (task : Task ℕ) (permit : Permit ℕ) (is : IsWorld nat_eq world)
    (serves : Serves nat_eq world fresh) (called : task_called world task.name ≡ Some task)
    (fits : IsFitPermit fresh world task permit) (writes : HasLayerToWrite world permit) where
  placed_later : ArePlaced (after is serves called permit) (after is serves called permit).tasks
  placed_later = permits_keep_tasks_placed is serves called permit fits.names writes

  pub locations_stay : LocationsAreThere (after is serves called permit)
  locations_stay = locations_are_there (after is serves called permit) placed_later

  pub directories_stay : TasksStandOnDirectories (after is serves called permit)
  directories_stay = tasks_stand_on_directories (after is serves called permit) placed_later

  pub open_files_stay : OpenFilesAreRegular (after is serves called permit)
  open_files_stay = open_files_are_regular (after is serves called permit) placed_later

-- a plain tree is written to
plain_writes : (world : World ℕ) → IsPlain world → (permit : Permit ℕ) → HasLayerToWrite world permit
plain_writes world plain (ToOpenNew directory name node access) =
    ap (overlay_or false (λ (overlay : Overlay ℕ). not (is_some overlay.upper)))
    (plain_numbered world plain (mount_at nat_eq world directory).filesystem)
plain_writes world plain permit = tt

pub permits_keep_locations : KeptByPermits LocationsAreThere
permits_keep_locations world fresh task permit is plain serves called fits =
    locations_stay world fresh task permit is serves called fits (plain_writes world plain permit)

pub permits_keep_directories : KeptByPermits TasksStandOnDirectories
permits_keep_directories world fresh task permit is plain serves called fits =
    directories_stay world fresh task permit is serves called fits (plain_writes world plain permit)

pub permits_keep_open_files : KeptByPermits OpenFilesAreRegular
permits_keep_open_files world fresh task permit is plain serves called fits =
    open_files_stay world fresh task permit is serves called fits (plain_writes world plain permit)
