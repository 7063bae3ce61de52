-- Each permit that fits keeps the invariants of mounts.
use Rattle.std.proofs.Common.{◌≡◌, refl, sym, ap, nat_eq, ℕ, is_some}
use Rattle.vt_spec.proofs.Common.{Fresh, Location, Make, MountInvariants, Move, Permit, Remove, Serves, Task, ToBind, ToChange, ToClose, ToEnterNamespace, ToExit, ToFork, ToMake, ToMountOverlay, ToMountPlain, ToMove, ToOpen, ToOpenNew, ToPivot, ToRemoveDirectory, ToRename, ToSetCredentials, ToSetDirectory, ToSetFlags, ToSetRoot, ToSetType, ToSetUmask, ToUnmount, ToUnmountLazily, ToUnshare, ToWritePart, World, apply, evens, going, has_child, is_copied_up, is_used, mount_at, mount_numbered, namespace_entered, odds, or_parts, unshared, without_mounts_on, without_replaced, without_task}
use Rattle.vt_laws_mounts.specs.Mounts.Namespaces.{CanPivot}
use Rattle.vt_laws_mounts.proofs.ends.Ending.{ended_namespaces_keep_mounts, points_keep_mounts, replaced_keeps_mounts, unmount_keeps_mounts}
use Rattle.vt_laws_mounts.proofs.ends.EndingLazy.{lazy_unmount_keeps_mounts}
use Rattle.vt_laws_mounts.proofs.namespaces.MountsInvariants.{flags_keep_mounts, type_keeps_mounts}
use Rattle.vt_laws_mounts.proofs.namespaces.Pivoting.{numbered_mounts_can_pivot, pivot_keeps_mounts}
use Rattle.vt_laws_mounts.proofs.namespaces.Unsharing.{unshare_keeps_mounts}
use Rattle.vt_laws_worlds.specs.Worlds.Kept.{KeptByAllPermits, KeptByPermits}
use Rattle.vt_laws_worlds.specs.Worlds.Permits.{MayPivot, NamesWhatIsThere}
use Rattle.vt_laws_worlds.proofs.kept.MountsAlike.{change_of_files, copy_of_files, mounts_of_files, same_mounts, writing_of_files}
use Rattle.vt_laws_worlds.proofs.kept.MountsKeptAttaching.{at_root_of, bind_kept, move_kept, new_mount_kept}

-- what a pivot names can pivot
pub can_pivot : (world : World ℕ) (task : Task ℕ) (new : ℕ) (put : Location ℕ) → MayPivot world task new put
    → CanPivot world task.namespace (mount_at nat_eq world task.root) (mount_numbered nat_eq world new) put
can_pivot world task new put may =
    numbered_mounts_can_pivot world task.namespace task.root.mount (at_root_of world new) put may.own_root may.own
    may.destination.own refl (may.below_root (at_root_of world new).node)
    (may.put_under (at_root_of world new).node refl) may.destination.free

module _ (world : World ℕ) (fresh : Fresh ℕ) (task : Task ℕ) (serves : Serves nat_eq world fresh)
    (kept : MountInvariants nat_eq world) where
  abbrev after : Permit ℕ → World ℕ
  after permit = (apply nat_eq fresh world task permit).world

  abbrev same_number : ℕ → ℕ
  same_number number = number

  -- tasks alone are others
  of_tasks : (other : World ℕ) → other.mounts ≡ world.mounts → other.master ≡ world.master
      → MountInvariants nat_eq other
  of_tasks other mounts master = same_mounts world other (sym mounts) (sym master) kept

  mounts_kept_by : (permit : Permit ℕ) → NamesWhatIsThere world task permit → MountInvariants nat_eq (after permit)
  mounts_kept_by (ToChange location change) fits = mounts_of_files world (after (ToChange location change))
      (change_of_files fresh world location change) kept
  mounts_kept_by (ToMake directory name node) fits = mounts_of_files world (after (ToMake directory name node))
      (change_of_files (odds fresh) world directory (Make directory.node name (evens fresh 0) node)) kept
  mounts_kept_by (ToRemoveDirectory parent name directory) fits =
      let left = without_mounts_on nat_eq world directory in
      mounts_of_files left (after (ToRemoveDirectory parent name directory))
      (change_of_files fresh left parent (Remove parent.node name directory.node))
      (points_keep_mounts world directory kept)
  mounts_kept_by (ToRename from old to new object replaced) fits =
      let left = without_replaced nat_eq world replaced in
      mounts_of_files left (after (ToRename from old to new object replaced))
      (change_of_files fresh left from (Move from.node old to.node new object.node))
      (replaced_keeps_mounts world replaced kept)
  mounts_kept_by (ToOpen file access) fits =
      let same = copy_of_files fresh world (is_copied_up nat_eq world file access) file in
      of_tasks (after (ToOpen file access)) same.mounts same.master
  mounts_kept_by (ToOpenNew directory name node access) fits =
      let same = change_of_files (odds fresh) world directory (Make directory.node name (evens fresh 0) node) in
      of_tasks (after (ToOpenNew directory name node access)) same.mounts same.master
  mounts_kept_by (ToWritePart file offset bytes) fits = mounts_of_files world (after (ToWritePart file offset bytes))
      (writing_of_files fresh world file offset bytes) kept
  mounts_kept_by (ToClose descriptor) fits = of_tasks (after (ToClose descriptor)) refl refl
  mounts_kept_by (ToSetDirectory directory) fits = of_tasks (after (ToSetDirectory directory)) refl refl
  mounts_kept_by (ToSetRoot root) fits = of_tasks (after (ToSetRoot root)) refl refl
  mounts_kept_by (ToSetUmask umask) fits = of_tasks (after (ToSetUmask umask)) refl refl
  mounts_kept_by (ToSetCredentials credentials) fits = of_tasks (after (ToSetCredentials credentials)) refl refl
  mounts_kept_by (ToFork credentials) fits = of_tasks (after (ToFork credentials)) refl refl
  mounts_kept_by ToExit fits =
      ended_namespaces_keep_mounts (without_task world task.name) (of_tasks (without_task world task.name) refl refl)
  mounts_kept_by ToUnshare fits = ended_namespaces_keep_mounts (unshared nat_eq world fresh task)
      (unshare_keeps_mounts world fresh task serves kept)
  mounts_kept_by (ToEnterNamespace namespace) fits =
      ended_namespaces_keep_mounts (namespace_entered nat_eq world task namespace)
      (of_tasks (namespace_entered nat_eq world task namespace) refl refl)
  mounts_kept_by (ToMountPlain place flags) fits = new_mount_kept world task place fits fresh flags serves kept
  mounts_kept_by (ToMountOverlay place overlay flags) fits = absurd fits
  mounts_kept_by (ToBind source place recursive) fits =
      bind_kept world task place fits.2 fresh source recursive serves kept
  mounts_kept_by (ToMove mount place) fits = move_kept world task mount place fresh fits serves kept
  mounts_kept_by (ToUnmount mount) fits = unmount_keeps_mounts world mount kept (or_parts (has_child nat_eq world mount)
      (is_used nat_eq world (going nat_eq world (mount_numbered nat_eq world mount))) fits.2).0
  mounts_kept_by (ToUnmountLazily mount) fits = lazy_unmount_keeps_mounts world mount kept
  mounts_kept_by (ToSetFlags mount flags) fits = flags_keep_mounts world (at_root_of world mount) flags kept
  mounts_kept_by (ToSetType mount word recursive) fits =
      type_keeps_mounts world fresh mount word recursive serves (ap is_some fits) kept
  mounts_kept_by (ToPivot new put) fits =
      pivot_keeps_mounts world task.namespace (mount_at nat_eq world task.root) (mount_numbered nat_eq world new) put
      (can_pivot world task new put fits) kept
  mounts_kept_by permit fits = kept

pub all_mounts_kept : KeptByAllPermits (MountInvariants nat_eq)
all_mounts_kept world fresh task permit is serves called fits =
    mounts_kept_by world fresh task serves is.mounts permit fits.names

pub mounts_kept : KeptByPermits (MountInvariants nat_eq)
mounts_kept world fresh task permit is plain serves called fits =
    all_mounts_kept world fresh task permit is serves called fits
