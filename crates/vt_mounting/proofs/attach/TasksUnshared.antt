-- A task gets a namespace of its own, as code does it: unshare(2) with CLONE_NEWNS.
use Rattle.std.proofs.Common.{◌≡◌, ap, subst, ◌∙◌, ℕ, ◌+◌, ◌*◌, nat_lt, true, List, [], ◌∷◌, ◌++◌, length, map, Some}
use Rattle.vt_spec.proofs.Common.{Task, TaskName, ToUnshare, list_all, same_Some}
use Rattle.vt_mounting.proofs.Common.{Filesystems, Grouping, IsHeld, MountEntry, NamespaceEntry, WorldValue, attached_in, called, changed_by, changed_called, counted, location_of, mount_of, mounts_in, replaced}
use Rattle.vt_location.specs.declared.locations.Location.{Location}
use Rattle.vt_tasks.specs.declared.task.Task.{Task as Own}
use Rattle.vt_tasks.specs.TaskValue.{task_of}
use Rattle.vt_mounting.specs.Attach.Copying.{CopiesAttached, copies_of, moved_in, with_use_moved}
use Rattle.vt_mounting.specs.Detach.Events.{Permits}
use Rattle.vt_mounting.specs.Detach.NamespacesLeft.{MountsAreLeft, namespace_entry, with_one_task_less}
use Rattle.vt_mounting.specs.Detach.Uses.{Merged, kept_of, kept_with, overlays_kept}
use Rattle.vt_mounting.proofs.detach.Staying.{IsDone}
use Rattle.vt_mounting.proofs.attach.UnsharedDone as Done
use Rattle.vt_mounting.proofs.attach.UnsharedInodes.{copies_gain, copies_there}
use Rattle.vt_mounting.proofs.attach.UnsharedWorlds.{copies, new_is}

-- the mounts and filesystems with the copies, with the root and the working directory on them, and without the old
-- namespace
pub record IsUnshared (value : WorldValue) (name : TaskName) (own : Own) (root directory : Location)
    (mounts : List MountEntry) (grown : Grouping) (filesystems : Filesystems) (overlays : List Merged)
    (moved : List MountEntry) (left_overlays : List Merged) (namespaces : List NamespaceEntry) (new : WorldValue) : Type 0 where
  pub made : CopiesAttached value.next (counted own.namespace.count) (kept_of value) value.groups
      (kept_with mounts filesystems overlays) grown
  pub root_is : location_of root
      ≡ moved_in value.next (attached_in (counted own.namespace.count) value.mounts) (location_of own.root)
  pub directory_is : location_of directory
      ≡ moved_in value.next (attached_in (counted own.namespace.count) value.mounts) (location_of own.directory)
  pub uses : moved ≡ with_use_moved (counted own.directory.mount.count) (counted directory.mount.count)
      (with_use_moved (counted own.root.mount.count) (counted root.mount.count) mounts)
  pub entered : namespaces ≡ value.namespaces ++ (record { count = value.next; tasks = 1 } ∷ [])
  pub left : MountsAreLeft (counted own.namespace.count) (namespace_entry own.namespace.count namespaces)
      (kept_with moved filesystems overlays) grown (kept_with new.mounts new.filesystems left_overlays) new.groups
  pub namespaces_left : new.namespaces ≡ with_one_task_less own.namespace.count namespaces
  pub tasks : new.tasks ≡ changed_called name
      (λ task. record task { namespace = counted value.next; root = location_of root; directory = location_of directory }) value.tasks
  pub before : list_all (λ mount. nat_lt mount.number (counted value.next)) (mounts_in value.mounts) ≡ true
  pub next : new.next ≡ value.next + 2 * length (attached_in (counted own.namespace.count) value.mounts)
  pub same_overlays : new.overlays ≡ overlays_kept left_overlays value.overlays

pub task_is_unshared : (value : WorldValue) → IsHeld value → (name : TaskName) → Permits value name ToUnshare
    → (own : Own) → Some (task_of own) ≡ called name value.tasks → (root directory : Location)
    → (mounts : List MountEntry) (grown : Grouping) (filesystems : Filesystems) (overlays : List Merged)
    (moved : List MountEntry) (left_overlays : List Merged) (namespaces : List NamespaceEntry) (new : WorldValue)
    → IsUnshared value name own root directory mounts grown filesystems overlays moved left_overlays namespaces new
    → IsDone value name ToUnshare new
task_is_unshared value whole name permits own is root directory mounts grown filesystems overlays moved left_overlays namespaces new facts =
    Done.unshared_done copied (record {
      uses_gained = copies_gain (Done.from copied).unsharing facts.made.added same_copies facts.made.slots;
      gained_there = copies_there (Done.from copied).unsharing facts.made.added same_copies facts.made.slots;
      grows = facts.made.grows;
      is_left = subst (λ all. MountsAreLeft (counted own.namespace.count) (namespace_entry own.namespace.count all)
          (kept_with moved_entries filesystems overlays) grown (kept_with new.mounts new.filesystems left_overlays)
          new.groups) facts.entered (subst (λ all. MountsAreLeft (counted own.namespace.count) (namespace_entry
          own.namespace.count namespaces) (kept_with all filesystems overlays) grown
          (kept_with new.mounts new.filesystems left_overlays) new.groups) uses_are facts.left);
      namespaces_are = facts.namespaces_left ∙ ap (with_one_task_less own.namespace.count) facts.entered;
      tasks_are = tasks_are;
      next_is = facts.next ∙ ap (λ n. value.next + 2 * length (attached_in n value.mounts)) in_namespace;
      before = facts.before;
      overlays_are = facts.same_overlays;
    })
  where
    own_is : task_of own ≡ permits.task
    own_is = same_Some (task_of own) permits.task (is ∙ permits.called)

    in_namespace : counted own.namespace.count ≡ permits.task.namespace
    in_namespace = ap (λ (task : Task ℕ). task.namespace) own_is

    copied_so : map mount_of facts.made.added ≡ copies_of value.next (attached_in permits.task.namespace value.mounts)
    copied_so = facts.made.copied ∙ ap (λ n. copies_of value.next (attached_in n value.mounts)) in_namespace

    copied : Done.AreCopied value name permits own.namespace.count facts.made.added mounts filesystems overlays
    copied = record {
      whole = whole;
      in_namespace = in_namespace;
      copied_so = copied_so;
      is_kept = facts.made.attached;
    }

    same_copies : map mount_of facts.made.added ≡ copies (Done.from copied)
    same_copies = Done.same_copies copied

    moved_task : Task ℕ
    moved_task = Done.moved_task copied

    moved_entries : List MountEntry
    moved_entries = Done.moved_entries copied

    root_goes : location_of root ≡ moved_task.root
    root_goes = facts.root_is ∙ (λ i. moved_in value.next (attached_in (in_namespace i) value.mounts) (own_is i).root)

    directory_goes : location_of directory ≡ moved_task.directory
    directory_goes = facts.directory_is
        ∙ (λ i. moved_in value.next (attached_in (in_namespace i) value.mounts) (own_is i).directory)

    uses_are : moved ≡ moved_entries
    uses_are = facts.uses ∙ (λ i. with_use_moved (own_is i).directory.mount (directory_goes i).mount
        (with_use_moved (own_is i).root.mount (root_goes i).mount (ap (λ k. k.mounts) facts.made.attached i)))

    tasks_are : new.tasks ≡ Done.tasks copied
    tasks_are = facts.tasks
        ∙ ap (changed_by (λ task. record task { namespace = counted value.next; root = location_of root; directory = location_of directory }) value.tasks) permits.called
        ∙ ap (λ (task : Task ℕ). replaced task value.tasks) (λ i. record permits.task {
          namespace = new_is (Done.from copied) i;
          root = root_goes i;
          directory = directory_goes i;
        })
