use Rattle.std.proofs.Common.{ap, false, map, option_map, rules, subst, sym, true, ◌≡◌, ◌∙◌}
use Rattle.vt_spec.proofs.Common.{ToEnterNamespace}
use Rattle.vt_ns.proofs.Common.{Becomes, IsDone, OverlaysLeft, Permits, WorldValue, counted, done_in_store, entries_of, kept, kept_of, left_itself, left_twice, location_of, merged_of, overlays_of_store, with_location, without_location}
use Rattle.vt_tasks.specs.TasksValue.{left_of}
use Rattle.vt_ns.specs.contracts.world.World.{the_view}
use Rattle.vt_mounting.specs.Detach.NamespacesLeft.{MountsAreLeft, namespace_entry, with_one_task_less}
use Rattle.vt_ns.proofs.CountingLemmas.{room_left}
use Rattle.vt_mounting.proofs.detach.Entered.{namespace_has_a_root, task_enters}
use Rattle.vt_ns.specs.Entering.{HasRoomToEnter}
use Rattle.vt_ns.proofs.world.StoresKept.{kept_is}
use Rattle.vt_ns.proofs.world.Births.{births_are, held_with, tasks_are}
use Rattle.vt_ns.proofs.world.NodesUncounted.{counts_none}
use Rattle.vt_ns.proofs.world.World.enter_namespace.Goals.{then-not-has_room-via-then-not-has_room, then-not-has_room-via-else-not-has_room+then-not-has_room_for_task}
use Rattle.vt_ns.proofs.world.World.enter_namespace.Goals as goal

pub has_room-requires : goal.has_room-requires
has_room-requires c = counts_none (the_view c.self.inside) c.self.inside.store c.self.invariant

pub hold_once_more-requires-clause-none : goal.hold_once_more-requires-clause-none
hold_once_more-requires-clause-none c = counts_none (the_view c.self.inside) c.self.inside.store c.self.invariant

pub unwrap-root-requires : goal.unwrap-root-requires
unwrap-root-requires c =
    namespace_has_a_root (the_view c.self.inside) c.self.invariant c.args.name.now c.args.namespace.count c.namespace_root.result
    (subst (λ value. Permits value c.args.name.now (ToEnterNamespace (counted c.args.namespace.count)))
    (sym c.self.view_is) c.requires) c.namespace_root.ensures

pub hold_once_more-requires-2-clause-room : goal.hold_once_more-requires-2-clause-room
hold_once_more-requires-2-clause-room c =
    room_left c.unwrap-root.result c.unwrap-root.result c.self.inside.mounts c.hold_once_more.new.mounts
    c.self.inside.store c.hold_once_more.new.store
    (c.has_room.ensures.0 (let room = c.if-not-has_room.false in search rules)) c.hold_once_more.ensures.held

abbrev after : (c : goal.After-leave_namespace) → WorldValue
after c = record {
  mounts = c.leave_namespace.new.mounts;
  groups = c.leave_namespace.new.groups;
  filesystems = c.leave_namespace.new.store.plain;
  overlays = overlays_of_store c.leave_namespace.new.store;
  namespaces = entries_of c.leave_namespace.new.namespaces.entries;
  tasks = c.enter.new.self.tasks;
  births = c.self.inside.tasks.births;
  next = c.self.inside.next;
}

-- what the task leaves, once its new places are held
left_so : (c : goal.After-leave_namespace) → kept c.leave-in-Some.new.mounts c.leave-in-Some.new.store
    ≡ without_location c.in-Some.left.directory false (without_location c.in-Some.left.root false
    (with_location c.unwrap-root.result false (with_location c.unwrap-root.result false
    (kept_of (the_view c.self.inside)))))
left_so c = c.leave-in-Some.ensures.left ∙ ap (without_location c.in-Some.left.directory false)
    (c.leave.ensures.left ∙ ap (without_location c.in-Some.left.root false)
    (c.hold_once_more-2.ensures.held ∙ ap (with_location c.unwrap-root.result false)
    (c.hold_once_more.ensures.held ∙ ap (with_location c.unwrap-root.result false)
    (kept_is (the_view c.self.inside) c.self.inside.store c.self.invariant))))

-- overlays that are left were there
overlays_so : (c : goal.After-leave_namespace) → OverlaysLeft c.self.inside.store.overlays
    c.leave_namespace.new.store.overlays
overlays_so c =
    let old = c.self.inside.store.overlays in
    let held = c.hold_once_more-2.new.store.overlays in
    left_twice old c.leave-in-Some.new.store.overlays c.leave_namespace.new.store.overlays
    (left_twice old c.leave.new.store.overlays c.leave-in-Some.new.store.overlays
    (left_twice old held c.leave.new.store.overlays
    (left_itself old held (c.hold_once_more-2.ensures.overlays ∙ c.hold_once_more.ensures.overlays))
    c.leave.ensures.overlays) c.leave-in-Some.ensures.overlays) c.leave_namespace.ensures.overlays

done : (c : goal.After-leave_namespace) → IsDone (the_view c.self.inside) c.args.name.now
    (ToEnterNamespace (counted c.args.namespace.count)) (after c)
done c =
    let left = c.in-Some.left in
    let permits : Permits (the_view c.self.inside) c.args.name.now (ToEnterNamespace (counted c.args.namespace.count)) =
    subst (λ value. Permits value c.args.name.now (ToEnterNamespace (counted c.args.namespace.count)))
    (sym c.self.view_is) c.requires in
    done_in_store (the_view c.self.inside) (after c) c.self.inside.store c.leave_namespace.new.store c.self.invariant
    (overlays_so c) c.args.name.now (ToEnterNamespace (counted c.args.namespace.count)) permits
    (task_enters (the_view c.self.inside) c.args.name.now c.args.namespace.count c.unwrap-root.result left
    c.leave_namespace.new.mounts c.leave_namespace.new.groups c.leave_namespace.new.store.plain
    (map merged_of c.leave_namespace.new.store.overlays)
    (entries_of c.leave_namespace.new.namespaces.entries) c.enter.new.self.tasks
    (kept c.leave-in-Some.new.mounts c.leave-in-Some.new.store) c.self.invariant permits
    (sym (ap (option_map location_of) c.unwrap-root.ensures) ∙ c.namespace_root.ensures)
    c.hold_once_more.ensures.slot c.leave.ensures.slot c.leave-in-Some.ensures.slot
    (sym (ap (option_map left_of) c.in-Some.is) ∙ c.enter.ensures.left) (tasks_are c.enter.ensures.rest) (left_so c)
    (c.leave_namespace.ensures.namespaces ∙ ap (with_one_task_less left.namespace.count) c.count_task.ensures)
    (subst (λ all. MountsAreLeft (counted left.namespace.count) (namespace_entry left.namespace.count all)
    (kept c.leave-in-Some.new.mounts c.leave-in-Some.new.store) c.self.inside.groups
    (kept c.leave_namespace.new.mounts c.leave_namespace.new.store) c.leave_namespace.new.groups)
    c.count_task.ensures c.leave_namespace.ensures.mounts))

pub invariant_of-self : goal.invariant_of-self
invariant_of-self c = held_with (done c).held c.enter.new.self.births

pub returns-in-Some-clause-ok : goal.returns-in-Some-clause-ok
returns-in-Some-clause-ok c =
    subst (λ value. Becomes value c.args.name.now (ToEnterNamespace (counted c.args.namespace.count)) (after c))
    c.self.view_is (done c).becomes

pub returns-then-not-has_room-clause-room : goal.returns-then-not-has_room-clause-room
returns-then-not-has_room-clause-room c = λ room.
    let here : HasRoomToEnter (the_view c.self.inside) c.args.namespace.count =
    subst (λ value. HasRoomToEnter value c.args.namespace.count) (sym c.self.view_is) room in
    let yes : c.has_room.result ≡ true = c.has_room.ensures.1 (here.root c.unwrap-root.result
    (sym (ap (option_map location_of) c.unwrap-root.ensures) ∙ c.namespace_root.ensures)) in
    elim c.then-not-has_room.branch [
      | then-not-has_room-via-then-not-has_room w ↦ (let no = w.if-not-has_room.true in search rules)
      | then-not-has_room-via-else-not-has_room+then-not-has_room_for_task w ↦
          (let for_task = w.has_room_for_task.ensures.1 here.tasks in let no = w.if-not-has_room_for_task.true in
          search rules)
    ]

pub returns-in-Some-clause-counts : goal.returns-in-Some-clause-counts
returns-in-Some-clause-counts c = record {
  numbers = ap (λ (value : WorldValue). value.next) c.self.view_is;
  births = births_are c.enter.ensures.rest ∙ ap (λ (value : WorldValue). value.births) c.self.view_is;
}
