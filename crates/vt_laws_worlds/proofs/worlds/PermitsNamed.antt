-- A permit that fits keeps the names of tasks apart, where tasks have counted their forks; and they go on counting
-- them.
use Rattle.std.proofs.Common.{refl, ◌∙◌, ℕ, nat_eq, unwrap_or}
use Rattle.vt_spec.proofs.Common.{ForksAreCounted, Fresh, Location, Make, Move, Permit, Remove, Task, ToChange, ToClose, ToEnterNamespace, ToExit, ToFork, ToMake, ToMountOverlay, ToOpen, ToOpenNew, ToPivot, ToRemoveDirectory, ToRename, ToSetCredentials, ToSetDirectory, ToSetRoot, ToSetType, ToSetUmask, ToUnmount, ToUnmountLazily, ToUnshare, ToWritePart, World, apply, entered_at, evens, going, is_copied_up, mount_at, mount_numbered, mounts_of, namespace_entered, namespace_root, numbers_by, odds, tasks-taken_away, tasks-with_change, tasks-without_replaced, unshared, unshared_task, with_descriptor, without_descriptor, without_mounts_on, without_replaced, without_task}
use Rattle.vt_laws_mounts.proofs.mounts.MountsRetyped.{types_are_of_mounts}
use Rattle.vt_laws_mounts.proofs.ends.UnmountingEnds.{lazy_is_of_mounts}
use Rattle.vt_laws_worlds.specs.Worlds.Kept.{KeptByAllPermits, KeptByPermits}
use Rattle.vt_laws_worlds.specs.Worlds.Permits.{NamesWhatIsThere}
use Rattle.vt_laws_worlds.specs.Worlds.Tasks.{OneTaskAName}
use Rattle.vt_laws_worlds.proofs.worlds.PermitsSeen.{gone_on}
use Rattle.vt_laws_worlds.proofs.TasksNamed.{GoOn, counted_among, counted_from, go_on_apart, go_on_counted}
use Rattle.vt_laws_worlds.proofs.TasksNamed.GoOn.{all_moved, one_changed, one_left, one_more, same_ones}
use Rattle.vt_laws_trees.proofs.trees.TreesTasks.{called_there, tasks-with_copy, tasks-pwritten}

module _ (world : World ℕ) (fresh : Fresh ℕ) (task : Task ℕ) where
  abbrev after : Permit ℕ → World ℕ
  after permit = (apply nat_eq fresh world task permit).world

  abbrev Goes : Permit ℕ → Type 0
  Goes permit = GoOn task world.tasks (after permit).tasks

  pub tasks_go_on : (permit : Permit ℕ) → NamesWhatIsThere world task permit → Goes permit
  tasks_go_on (ToChange location change) fits = same_ones (after (ToChange location change)).tasks
      (tasks-with_change fresh world location change)
  tasks_go_on (ToMake directory name node) fits = same_ones (after (ToMake directory name node)).tasks
      (tasks-with_change (odds fresh) world directory (Make directory.node name (evens fresh 0) node))
  tasks_go_on (ToRemoveDirectory parent name directory) fits =
      same_ones (after (ToRemoveDirectory parent name directory)).tasks
      (tasks-with_change fresh (without_mounts_on nat_eq world directory) parent
      (Remove parent.node name directory.node) ∙ tasks-taken_away world (gone_on world directory))
  tasks_go_on (ToRename from old to new object replaced) fits =
      same_ones (after (ToRename from old to new object replaced)).tasks
      (tasks-with_change fresh (without_replaced nat_eq world replaced) from
      (Move from.node old to.node new object.node) ∙ tasks-without_replaced world replaced)
  tasks_go_on (ToOpen file access) fits =
      one_changed (with_descriptor task file access) (after (ToOpen file access)).tasks refl refl
      (cc (tasks-with_copy fresh world (is_copied_up nat_eq world file access) file))
  tasks_go_on (ToOpenNew directory name node access) fits =
      let file : Location ℕ = record { mount = directory.mount; node = evens fresh 0 } in
      one_changed (with_descriptor task file access) (after (ToOpenNew directory name node access)).tasks refl refl
      (cc (tasks-with_change (odds fresh) world directory (Make directory.node name (evens fresh 0) node)))
  tasks_go_on (ToWritePart file offset bytes) fits =
      same_ones (after (ToWritePart file offset bytes)).tasks (tasks-pwritten fresh world file offset bytes)
  tasks_go_on (ToClose descriptor) fits = one_changed (without_descriptor task descriptor)
      (after (ToClose descriptor)).tasks refl refl refl
  tasks_go_on (ToSetDirectory directory) fits =
      one_changed (record task { directory = directory }) (after (ToSetDirectory directory)).tasks refl refl refl
  tasks_go_on (ToSetRoot root) fits = one_changed (record task { root = root })
      (after (ToSetRoot root)).tasks refl refl refl
  tasks_go_on (ToSetUmask umask) fits = one_changed (record task { umask = umask })
      (after (ToSetUmask umask)).tasks refl refl refl
  tasks_go_on (ToSetCredentials credentials) fits = one_changed (record task { credentials = credentials })
      (after (ToSetCredentials credentials)).tasks refl refl refl
  tasks_go_on (ToFork credentials) fits = one_more credentials (after (ToFork credentials)).tasks refl
  tasks_go_on ToExit fits = one_left (after ToExit).tasks (tasks-taken_away (without_task world task.name) _)
  tasks_go_on ToUnshare fits =
      let copied = mounts_of nat_eq world task.namespace in
      one_changed (unshared_task nat_eq copied (numbers_by nat_eq (odds fresh) copied) (evens fresh 0) task)
      (after ToUnshare).tasks refl refl (tasks-taken_away (unshared nat_eq world fresh task) _)
  tasks_go_on (ToEnterNamespace namespace) fits =
      one_changed (entered_at task namespace (unwrap_or (namespace_root nat_eq world namespace) task.root))
      (after (ToEnterNamespace namespace)).tasks refl refl
      (tasks-taken_away (namespace_entered nat_eq world task namespace) _)
  tasks_go_on (ToMountOverlay place overlay flags) fits = absurd fits
  tasks_go_on (ToUnmount mount) fits = same_ones (after (ToUnmount mount)).tasks
      (tasks-taken_away world (going nat_eq world (mount_numbered nat_eq world mount)))
  tasks_go_on (ToUnmountLazily mount) fits = same_ones (after (ToUnmountLazily mount)).tasks
      (lazy_is_of_mounts world mount).tasks
  tasks_go_on (ToSetType mount word recursive) fits = same_ones (after (ToSetType mount word recursive)).tasks
      (types_are_of_mounts world fresh mount word recursive).tasks
  tasks_go_on (ToPivot new put) fits =
      all_moved task.namespace (mount_at nat_eq world task.root) (mount_numbered nat_eq world new)
      (after (ToPivot new put)).tasks refl
  tasks_go_on permit fits = same_ones world.tasks refl

pub all_permits_keep_names : KeptByAllPermits OneTaskAName
all_permits_keep_names world fresh task permit is serves called fits = go_on_apart task world.tasks
    (called_there world.tasks task.name task called)
    is.tasks.one_task (counted_among world is.tasks.forks_counted) (after world fresh task permit).tasks
    (tasks_go_on world fresh task permit fits.names)

pub permits_keep_names : KeptByPermits OneTaskAName
permits_keep_names world fresh task permit is plain serves called fits =
    all_permits_keep_names world fresh task permit is serves called fits

pub all_permits_keep_counting_forks : KeptByAllPermits ForksAreCounted
all_permits_keep_counting_forks world fresh task permit is serves called fits =
    counted_from (after world fresh task permit) (go_on_counted task world.tasks
    (called_there world.tasks task.name task called)
    is.tasks.one_task (counted_among world is.tasks.forks_counted) (after world fresh task permit).tasks
    (tasks_go_on world fresh task permit fits.names))

pub permits_keep_counting_forks : KeptByPermits ForksAreCounted
permits_keep_counting_forks world fresh task permit is plain serves called fits =
    all_permits_keep_counting_forks world fresh task permit is serves called fits
