use Rattle.std.proofs.Common.{ap, length, nat_eq, option_copied, option_map, refl, subst, sym, ℕ, ◌*◌, ◌+◌, ◌∙◌, ◌≡◌, ◌++◌, ◌∷◌, [], map}
use Rattle.vt_spec.proofs.Common.{Task, ToUnshare, mounts_of, same_Some}
use Rattle.vt_ns.proofs.Common.{Becomes, IsDone, OverlaysLeft, Permits, WorldValue, changed_called, counted, done_in_store, entries_of, kept, kept_of, left_still, left_twice, location_of, merged_of, overlays_of_store, task_of, world_of}
use Rattle.vt_ns.specs.Counting.{CountsCopies}
use Rattle.vt_location.specs.declared.numbers.NamespaceId.{NamespaceId}
use Rattle.vt_mount.proofs.KeptLemmas.{not-err, of-ok}
use Rattle.vt_ns.specs.contracts.world.World.{the_view}
use Rattle.vt_mount.specs.Attached.{attached_in}
use Rattle.vt_mounting.specs.Attach.Copying.{CopiesAttached, with_use_moved}
use Rattle.vt_mounting.specs.Detach.Uses.{overlays_kept, with_attached}
use Rattle.vt_mount.proofs.AttachedLemmas.{as_many}
use Rattle.vt_mounting.proofs.attach.TasksUnshared.{task_is_unshared}
use Rattle.vt_mounting.proofs.attach.UnsharingLemmas.{namespace_added, numbers_before, uses_left, uses_left_then, writers_left, writers_left_then}
use Rattle.vt_ns.proofs.world.StoresKept.{kept_is}
use Rattle.vt_ns.proofs.world.Births.{births_are, held_with, tasks_are}
use Rattle.vt_ns.proofs.world.NodesUncounted.{counts_none}
use Rattle.vt_ns.proofs.world.World.unshare.Goals as goal

pub attach_copies-requires-clause-none : goal.attach_copies-requires-clause-none
attach_copies-requires-clause-none c = counts_none (the_view c.self.inside) c.self.inside.store c.self.invariant

pub attach_copies-requires-clause-before : goal.attach_copies-requires-clause-before
attach_copies-requires-clause-before c = numbers_before (the_view c.self.inside) c.self.invariant c.alloc-alloc.ensures.counted

pub move_use-requires-clause-uses : goal.move_use-requires-clause-uses
move_use-requires-clause-uses c =
    let own = c.unwrap-task.result.now in
    let made = c.in_ok-attach_copies.ensures.ok in
    uses_left (the_view c.self.inside) c.self.invariant c.alloc-alloc.ensures.counted
    (attached_in (counted own.namespace.count) c.self.inside.mounts)
    made.added c.attach_copies.new.mounts c.attach_copies.new.store.plain
    (map merged_of c.attach_copies.new.store.overlays)
    (made.attached ∙ ap (with_attached made.added) (kept_is (the_view c.self.inside) c.self.inside.store c.self.invariant)) own.root
    c.moved-new_root.result c.moved-new_root.ensures

pub move_use-requires-clause-writers : goal.move_use-requires-clause-writers
move_use-requires-clause-writers c =
    let own = c.unwrap-task.result.now in
    let made = c.in_ok-attach_copies.ensures.ok in
    writers_left (the_view c.self.inside) c.self.invariant c.alloc-alloc.ensures.counted
    (attached_in (counted own.namespace.count) c.self.inside.mounts)
    made.added c.attach_copies.new.mounts c.attach_copies.new.store.plain
    (map merged_of c.attach_copies.new.store.overlays)
    (made.attached ∙ ap (with_attached made.added) (kept_is (the_view c.self.inside) c.self.inside.store c.self.invariant)) own.root
    c.moved-new_root.result c.moved-new_root.ensures

pub move_use-requires-2-clause-uses : goal.move_use-requires-2-clause-uses
move_use-requires-2-clause-uses c = λ other.
    let own = c.unwrap-task.result.now in
    let made = c.in_ok-attach_copies.ensures.ok in
    uses_left_then (the_view c.self.inside) c.self.invariant c.alloc-alloc.ensures.counted
    (attached_in (counted own.namespace.count) c.self.inside.mounts)
    made.added c.attach_copies.new.mounts c.attach_copies.new.store.plain
    (map merged_of c.attach_copies.new.store.overlays)
    (made.attached ∙ ap (with_attached made.added) (kept_is (the_view c.self.inside) c.self.inside.store c.self.invariant)) own.directory
    c.moved-new_directory.result c.moved-new_directory.ensures other (counted own.root.mount.count)
    (counted c.moved-new_root.result.mount.count) c.move_use.new.mounts c.move_use.ensures

pub move_use-requires-2-clause-writers : goal.move_use-requires-2-clause-writers
move_use-requires-2-clause-writers c = λ other.
    let own = c.unwrap-task.result.now in
    let made = c.in_ok-attach_copies.ensures.ok in
    writers_left_then (the_view c.self.inside) c.self.invariant c.alloc-alloc.ensures.counted
    (attached_in (counted own.namespace.count) c.self.inside.mounts)
    made.added c.attach_copies.new.mounts c.attach_copies.new.store.plain
    (map merged_of c.attach_copies.new.store.overlays)
    (made.attached ∙ ap (with_attached made.added) (kept_is (the_view c.self.inside) c.self.inside.store c.self.invariant)) own.directory
    c.moved-new_directory.result c.moved-new_directory.ensures other (counted own.root.mount.count)
    (counted c.moved-new_root.result.mount.count) c.move_use.new.mounts c.move_use.ensures

permitted : (c : goal.After-self-1) → Permits (the_view c.self.inside) c.args.name.now ToUnshare
permitted c = subst (λ value. Permits value c.args.name.now ToUnshare) (sym c.self.view_is) c.requires

-- the new namespace comes last
entered : (c : goal.After-self-1) → entries_of c.insert.new.self.entries ≡ entries_of c.self.inside.namespaces.entries
    ++ record { count = c.self.inside.next; tasks = 1 } ∷ []
entered c =
    let room = not-err c.reserve.result c.if-is_err.ensures.value c.reserve.ensures.ok in
    ap entries_of (of-ok c.insert.result (c.insert.ensures.succeeds room) c.insert.ensures.entries)
    ∙ namespace_added (the_view c.self.inside) (permitted c).given.serves c.reserve.new.self.entries
    (ap entries_of c.reserve.ensures.entries)
    c.new-new.result (ap (λ (id : NamespaceId). id.count) c.new-new.ensures) (record { tasks = 1 })

abbrev after : (c : goal.After-self-1) → WorldValue
after c = record {
  mounts = c.leave_namespace.new.mounts;
  groups = c.leave_namespace.new.groups;
  filesystems = c.leave_namespace.new.store.plain;
  overlays = overlays_of_store c.leave_namespace.new.store;
  namespaces = entries_of c.leave_namespace.new.namespaces.entries;
  tasks = c.move_root_and_directory.new.self.tasks;
  births = c.self.inside.tasks.births;
  next = c.self.inside.next + 2 * length c.attached_in.result.now;
}

-- the copies are attached
made_so : (c : goal.After-self-1) → CopiesAttached c.self.inside.next (counted c.unwrap-task.result.now.namespace.count)
    (kept_of (the_view c.self.inside)) c.self.inside.groups (kept c.attach_copies.new.mounts c.attach_copies.new.store)
    c.attach_copies.new.groups
made_so c = subst (λ k. CopiesAttached c.self.inside.next (counted c.unwrap-task.result.now.namespace.count) k
    c.self.inside.groups (kept c.attach_copies.new.mounts c.attach_copies.new.store) c.attach_copies.new.groups)
    (kept_is (the_view c.self.inside) c.self.inside.store c.self.invariant) c.in_ok-attach_copies.ensures.ok

-- overlays that are left were there
overlays_so : (c : goal.After-self-1) → OverlaysLeft c.self.inside.store.overlays c.leave_namespace.new.store.overlays
overlays_so c =
    let old = c.self.inside.store.overlays in
    let copied = c.attach_copies.new.store.overlays in
    left_twice old copied c.leave_namespace.new.store.overlays
    (left_still old copied c.in_ok-attach_copies.ensures.overlays) c.leave_namespace.ensures.overlays

done : (c : goal.After-self-1) → IsDone (the_view c.self.inside) c.args.name.now ToUnshare (after c)
done c =
    let own = c.unwrap-task.result.now in
    let root = c.moved-new_root.result in
    let directory = c.moved-new_directory.result in
    done_in_store (the_view c.self.inside) (after c) c.self.inside.store c.leave_namespace.new.store c.self.invariant
    (overlays_so c) c.args.name.now ToUnshare (permitted c)
    (task_is_unshared (the_view c.self.inside) c.self.invariant c.args.name.now (permitted c) own
    (sym (ap (λ found. option_map task_of (option_copied found)) c.unwrap-task.ensures) ∙ c.get.ensures.found)
    root directory c.attach_copies.new.mounts c.attach_copies.new.groups c.attach_copies.new.store.plain
    (map merged_of c.attach_copies.new.store.overlays)
    c.move_use-2.new.mounts (map merged_of c.leave_namespace.new.store.overlays) (entries_of c.insert.new.self.entries)
    (record (after c) {
      overlays = overlays_kept (map merged_of c.leave_namespace.new.store.overlays) (the_view c.self.inside).overlays;
    }) (record {
      made = made_so c;
      root_is = c.moved-new_root.ensures;
      directory_is = c.moved-new_directory.ensures;
      uses = c.move_use-2.ensures ∙ ap
          (with_use_moved (counted own.directory.mount.count) (counted directory.mount.count)) c.move_use.ensures;
      entered = entered c;
      left = c.leave_namespace.ensures.mounts;
      before = numbers_before (the_view c.self.inside) c.self.invariant c.alloc-alloc.ensures.counted;
      namespaces_left = c.leave_namespace.ensures.namespaces;
      tasks = tasks_are c.move_root_and_directory.ensures.rest ∙ ap (λ n. changed_called c.args.name.now (λ task. record task {
        namespace = counted n;
        root = location_of root;
        directory = location_of directory;
      }) c.self.inside.tasks.tasks) (ap (λ (id : NamespaceId). id.count) c.new-new.ensures);
      next = ap (λ n. c.self.inside.next + 2 * n) (as_many c.attached_in.result.now
          (attached_in (counted own.namespace.count) c.self.inside.mounts) c.attached_in.ensures.are);
      same_overlays = refl;
    }))

pub invariant_of-self-2 : goal.invariant_of-self-2
invariant_of-self-2 c = held_with (done c).held c.move_root_and_directory.new.self.births

pub returns-clause-ok : goal.returns-clause-ok
returns-clause-ok c = subst (λ value. Becomes value c.args.name.now ToUnshare (after c)) c.self.view_is (done c).becomes

-- each copy counts two
pub returns-clause-counts : goal.returns-clause-counts
returns-clause-counts c = subst (λ value. CountsCopies value c.args.name.now (after c)) c.self.view_is (λ task called.
    let own = c.unwrap-task.result.now in
    let many = as_many c.attached_in.result.now (attached_in (counted own.namespace.count) c.self.inside.mounts)
    c.attached_in.ensures.are in
    let same = same_Some _ _ (sym (ap (λ found. option_map task_of (option_copied found)) c.unwrap-task.ensures)
    ∙ c.get.ensures.found ∙ called) in
    ap (λ n. c.self.inside.next + 2 * n) many
    ∙ ap (λ (one : Task ℕ). c.self.inside.next
    + 2 * length (mounts_of nat_eq (world_of (the_view c.self.inside)) one.namespace)) same)

pub returns-clause-births : goal.returns-clause-births
returns-clause-births c =
    births_are c.move_root_and_directory.ensures.rest ∙ ap (λ (value : WorldValue). value.births) c.self.view_is
