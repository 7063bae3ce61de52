-- Each permit that fits keeps the invariants of namespaces.
use Rattle.std.proofs.Common.{arith, ◌≡◌, refl, sym, ap, subst, None, Option, Some, map, nat_eq, ℕ, ◌+◌}
use Rattle.vt_spec.proofs.Common.{Among, Fresh, IsWorld, Location, Make, Move, NamespaceInvariants, Permit, Remove, Serves, Task, ToBind, ToChange, ToClose, ToEnterNamespace, ToExit, ToFork, ToMake, ToMountOverlay, ToMountPlain, ToMove, ToOpen, ToOpenNew, ToPivot, ToRemoveDirectory, ToRename, ToSetCredentials, ToSetDirectory, ToSetFlags, ToSetRoot, ToSetType, ToSetUmask, ToUnmount, ToUnmountLazily, ToUnshare, ToWritePart, World, apply, child_of, common_steps, evens, is_copied_up, mount_at, mount_numbered, odds, plain_filesystem, replaced_if_called, with_descriptor, without_descriptor, without_mounts_on, without_replaced}
use Rattle.vt_laws_mounts.proofs.ends.EndingCounts.{points_keep_roots, points_take_none_in, unmount_keeps_roots, unmount_takes_none_in}
use Rattle.vt_laws_mounts.proofs.ends.EndingLazyCounts.{lazy_unmount_keeps_roots, lazy_unmount_takes_none_in}
use Rattle.vt_laws_mounts.proofs.namespaces.MountsInvariants.{flags_keep_counts, type_keeps_counts}
use Rattle.vt_laws_mounts.proofs.mounts.MountsRetyped.{types_are_of_mounts}
use Rattle.vt_laws_mounts.proofs.moves.MovingRoots.{binds_keep_root_mounts, binds_stay_in_namespaces, moves_keep_root_mounts, moves_stay_in_namespaces, new_mounts_keep_root_mounts, new_mounts_stay_in_namespaces}
use Rattle.vt_laws_mounts.proofs.namespaces.PivotingCounts.{pivot_keeps_counts}
use Rattle.vt_laws_mounts.proofs.ends.Unmounting.{all_but_mounts, unmount_is_of_mounts}
use Rattle.vt_laws_mounts.proofs.ends.UnmountingEnds.{lazy_is_of_mounts}
use Rattle.vt_laws_mounts.proofs.namespaces.Unsharing.{unshare_keeps_mounts}
use Rattle.vt_laws_worlds.specs.Worlds.Kept.{KeptByAllPermits, KeptByPermits}
use Rattle.vt_laws_worlds.specs.Worlds.Permits.{NamesWhatIsThere}
use Rattle.vt_laws_worlds.proofs.kept.MountsAlike.{IsOfFiles, change_of_files, copy_of_files, writing_of_files}
use Rattle.vt_laws_worlds.proofs.kept.MountsKept.{can_pivot}
use Rattle.vt_laws_worlds.proofs.kept.MountsKeptAttaching.{at_root_of}
use Rattle.vt_laws_worlds.proofs.kept.NamespacesEnding.{entry_namespaces, exit_namespaces, unshare_namespaces}
use Rattle.vt_laws_worlds.proofs.kept.NamespacesListed.{AreNamespaces, KeepsNamespaces, TasksStay, are_namespaces, attached_stay, counted_stay, from_namespaces, listed_in, namespaces_stay, same_tasks_stay, taken_stay}
use Rattle.vt_laws_worlds.proofs.kept.NamespacesTasks.{forked_stays, pivoted_stay, replaced_stays}
use Rattle.vt_laws_trees.proofs.trees.TreesTasks.{called_there}

-- Mounts and namespaces as they were, and tasks in the namespaces in which some were
same_mounts_stay : (before after : World ℕ) → after.namespaces ≡ before.namespaces → after.mounts ≡ before.mounts
    → TasksStay before.tasks after.tasks → AreNamespaces before → AreNamespaces after
same_mounts_stay before after namespaces mounts tasks are = grind (arith, common_steps, are, namespaces_stay)

same_tasks : (before after : World ℕ) → after.tasks ≡ before.tasks → TasksStay before.tasks after.tasks
same_tasks before after same = subst (TasksStay before.tasks) (sym same) (same_tasks_stay before.tasks)

files_stay : (before after : World ℕ) → IsOfFiles before after → AreNamespaces before → AreNamespaces after
files_stay before after same are =
    same_mounts_stay before after same.namespaces same.mounts (same_tasks before after same.tasks) are

module _ (world : World ℕ) (fresh : Fresh ℕ) (task : Task ℕ) (serves : Serves nat_eq world fresh)
    (is : IsWorld nat_eq world) (there : Among task world.tasks) where
  abbrev after : Permit ℕ → World ℕ
  after permit = (apply nat_eq fresh world task permit).world

  are : AreNamespaces world
  are = are_namespaces world is.namespaces

  becomes : (other : World ℕ) → KeepsNamespaces world other → AreNamespaces other
  becomes other keeps = namespaces_stay world other keeps are

  -- mounts on a directory go
  points : (directory : Location ℕ) → AreNamespaces (without_mounts_on nat_eq world directory)
  points directory =
      let left = without_mounts_on nat_eq world directory in
      let others = all_but_mounts world _ in
      becomes left (record {
        namespaces = others.namespaces;
        mounts = taken_stay world left (points_take_none_in world directory);
        roots = points_keep_roots world directory is.mounts.one_number;
        tasks = same_tasks world left others.tasks;
      })

  replaced_points : (object : Option (Location ℕ)) → AreNamespaces (without_replaced nat_eq world object)
  replaced_points None = are
  replaced_points (Some object) = points object

  -- a task with other than its namespace
  changed_task : (other : World ℕ) (new : Task ℕ) → other.namespaces ≡ world.namespaces → other.mounts ≡ world.mounts
      → other.tasks ≡ map (replaced_if_called new) world.tasks → new.name ≡ task.name → new.namespace ≡ task.namespace
      → AreNamespaces other
  changed_task other new namespaces mounts tasks name namespace =
      let stay = replaced_stays world task is.tasks.one_task there new name namespace in
      same_mounts_stay world other namespaces mounts (subst (TasksStay world.tasks) (sym tasks) stay) are

  namespaces_kept_by : (permit : Permit ℕ) → NamesWhatIsThere world task permit → AreNamespaces (after permit)
  namespaces_kept_by (ToChange location change) fits =
      files_stay world (after (ToChange location change)) (change_of_files fresh world location change) are
  namespaces_kept_by (ToMake directory name node) fits = files_stay world (after (ToMake directory name node))
      (change_of_files (odds fresh) world directory (Make directory.node name (evens fresh 0) node)) are
  namespaces_kept_by (ToRemoveDirectory parent name directory) fits =
      let left = without_mounts_on nat_eq world directory in
      files_stay left (after (ToRemoveDirectory parent name directory))
      (change_of_files fresh left parent (Remove parent.node name directory.node)) (points directory)
  namespaces_kept_by (ToRename from old to new object replaced) fits =
      let left = without_replaced nat_eq world replaced in
      files_stay left (after (ToRename from old to new object replaced))
      (change_of_files fresh left from (Move from.node old to.node new object.node)) (replaced_points replaced)
  namespaces_kept_by (ToOpen file access) fits =
      let same = copy_of_files fresh world (is_copied_up nat_eq world file access) file in
      let new = with_descriptor task file access in
      changed_task (after (ToOpen file access)) new same.namespaces same.mounts
      (ap (map (replaced_if_called new)) same.tasks) refl refl
  namespaces_kept_by (ToOpenNew directory name node access) fits =
      let same = change_of_files (odds fresh) world directory (Make directory.node name (evens fresh 0) node) in
      let file : Location ℕ = record { mount = directory.mount; node = evens fresh 0 } in
      let new = with_descriptor task file access in
      changed_task (after (ToOpenNew directory name node access)) new same.namespaces same.mounts
      (ap (map (replaced_if_called new)) same.tasks) refl refl
  namespaces_kept_by (ToWritePart file offset bytes) fits = files_stay world (after (ToWritePart file offset bytes))
      (writing_of_files fresh world file offset bytes) are
  namespaces_kept_by (ToClose descriptor) fits =
      changed_task (after (ToClose descriptor)) (without_descriptor task descriptor) refl refl refl refl refl
  namespaces_kept_by (ToSetDirectory directory) fits =
      changed_task (after (ToSetDirectory directory)) (record task { directory = directory }) refl refl refl refl refl
  namespaces_kept_by (ToSetRoot root) fits =
      changed_task (after (ToSetRoot root)) (record task { root = root }) refl refl refl refl refl
  namespaces_kept_by (ToSetUmask umask) fits =
      changed_task (after (ToSetUmask umask)) (record task { umask = umask }) refl refl refl refl refl
  namespaces_kept_by (ToSetCredentials credentials) fits =
      changed_task (after (ToSetCredentials credentials)) (record task { credentials = credentials }) refl refl refl
      refl refl
  namespaces_kept_by (ToFork credentials) fits =
      let new = record task { forks = task.forks + 1 } in
      same_mounts_stay world (after (ToFork credentials)) refl refl
      (forked_stays world task is.tasks.one_task there new (child_of task credentials) refl refl refl) are
  namespaces_kept_by ToExit fits = exit_namespaces world task is.mounts.one_number are
  namespaces_kept_by ToUnshare fits = unshare_namespaces world fresh task serves is.namespaces are there
      (unshare_keeps_mounts world fresh task serves is.mounts).one_number
  namespaces_kept_by (ToEnterNamespace namespace) fits =
      entry_namespaces world task namespace is.mounts.one_number are (listed_in world namespace fits)
  namespaces_kept_by (ToMountPlain place flags) fits =
      let new = plain_filesystem nat_eq fresh in
      let later = after (ToMountPlain place flags) in
      becomes later (record {
        namespaces = refl;
        mounts = attached_stay world later (new_mounts_stay_in_namespaces world (odds fresh) place new flags);
        roots = new_mounts_keep_root_mounts world (odds fresh) place new flags;
        tasks = same_tasks world later refl;
      })
  namespaces_kept_by (ToMountOverlay place overlay flags) fits = absurd fits
  namespaces_kept_by (ToBind source place recursive) fits =
      let later = after (ToBind source place recursive) in
      becomes later (record {
        namespaces = refl;
        mounts = attached_stay world later (binds_stay_in_namespaces world fresh source place recursive);
        roots = binds_keep_root_mounts world fresh source place recursive;
        tasks = same_tasks world later refl;
      })
  namespaces_kept_by (ToMove mount place) fits =
      let source = at_root_of world mount in
      let later = after (ToMove mount place) in
      becomes later (record {
        namespaces = refl;
        mounts = attached_stay world later (moves_stay_in_namespaces world fresh source place);
        roots = moves_keep_root_mounts world fresh source place is.mounts.one_number fits.placed;
        tasks = same_tasks world later refl;
      })
  namespaces_kept_by (ToUnmount mount) fits =
      let later = after (ToUnmount mount) in
      let others = unmount_is_of_mounts world mount in
      becomes later (record {
        namespaces = others.namespaces;
        mounts = taken_stay world later (unmount_takes_none_in world mount);
        roots = unmount_keeps_roots world mount is.mounts.one_number fits.1;
        tasks = same_tasks world later others.tasks;
      })
  namespaces_kept_by (ToUnmountLazily mount) fits =
      let later = after (ToUnmountLazily mount) in
      let others = lazy_is_of_mounts world mount in
      becomes later (record {
        namespaces = others.namespaces;
        mounts = taken_stay world later (lazy_unmount_takes_none_in world mount);
        roots = lazy_unmount_keeps_roots world mount is.mounts.one_number fits.1;
        tasks = same_tasks world later others.tasks;
      })
  namespaces_kept_by (ToSetFlags mount flags) fits =
      let later = after (ToSetFlags mount flags) in
      let counts = λ (namespace : ℕ).
      flags_keep_counts world (at_root_of world mount) flags namespace is.mounts.one_number in
      becomes later (record {
        namespaces = refl;
        mounts = counted_stay world later (λ namespace. (counts namespace).mounts);
        roots = λ namespace. (counts namespace).roots;
        tasks = same_tasks world later refl;
      })
  namespaces_kept_by (ToSetType mount word recursive) fits =
      let later = after (ToSetType mount word recursive) in
      let others = types_are_of_mounts world fresh mount word recursive in
      let counts = λ (namespace : ℕ). type_keeps_counts world fresh mount word recursive namespace in
      becomes later (record {
        namespaces = others.namespaces;
        mounts = counted_stay world later (λ namespace. (counts namespace).mounts);
        roots = λ namespace. (counts namespace).roots;
        tasks = same_tasks world later others.tasks;
      })
  namespaces_kept_by (ToPivot new put) fits =
      let later = after (ToPivot new put) in
      let root_mount = mount_at nat_eq world task.root in
      let new_mount = mount_numbered nat_eq world new in
      let counts =
      pivot_keeps_counts world task.namespace root_mount new_mount put (can_pivot world task new put fits) is.mounts in
      becomes later (record {
        namespaces = refl;
        mounts = counted_stay world later (λ namespace. (counts namespace).mounts);
        roots = λ namespace. (counts namespace).roots;
        tasks = pivoted_stay task.namespace root_mount new_mount world.tasks;
      })
  namespaces_kept_by permit fits = are

pub all_namespaces_kept : KeptByAllPermits (NamespaceInvariants nat_eq)
all_namespaces_kept world fresh task permit is serves called fits =
    from_namespaces (apply nat_eq fresh world task permit).world
    (namespaces_kept_by world fresh task serves is (called_there world.tasks task.name task called) permit fits.names)
    fits.few_mounts

pub namespaces_kept : KeptByPermits (NamespaceInvariants nat_eq)
namespaces_kept world fresh task permit is plain serves called fits =
    all_namespaces_kept world fresh task permit is serves called fits
