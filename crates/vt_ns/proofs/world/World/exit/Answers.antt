use Rattle.std.proofs.Common.{ap, false, fold, map, option_map, subst, sym, ◌≡◌, ◌∙◌}
use Rattle.vt_spec.proofs.Common.{ToExit}
use Rattle.vt_ns.proofs.Common.{Becomes, IsDone, OverlaysLeft, Permits, WorldValue, done_in_store, entries_of, kept, kept_of, left_twice, merged_of, overlays_of_store, task_of, without_file, without_location}
use Rattle.vt_ns.specs.contracts.world.World.{the_view}
use Rattle.vt_mounting.proofs.detach.Exiting.{task_exits}
use Rattle.vt_ns.proofs.world.StoresKept.{kept_is}
use Rattle.vt_ns.proofs.world.Births.{births_are, held_with, tasks_are}
use Rattle.vt_ns.proofs.world.NodesUncounted.{counts_none}
use Rattle.vt_ns.proofs.world.World.exit.Goals as goal

pub leave-requires : goal.leave-requires
leave-requires c = counts_none (the_view c.self.inside) c.self.inside.store c.self.invariant

abbrev after : (c : goal.After-drop-task-6) → WorldValue
after c = record {
  mounts = c.leave_namespace.new.mounts;
  groups = c.leave_namespace.new.groups;
  filesystems = c.leave_namespace.new.store.plain;
  overlays = overlays_of_store c.leave_namespace.new.store;
  namespaces = entries_of c.leave_namespace.new.namespaces.entries;
  tasks = c.exit.new.self.tasks;
  births = c.self.inside.tasks.births;
  next = c.self.inside.next;
}

-- what the task leaves
left_so : (c : goal.After-drop-task-6) → kept c.leave_files.new.mounts c.leave_files.new.store
    ≡ fold without_file (without_location c.in-Some.task.directory false
    (without_location c.in-Some.task.root false (kept_of (the_view c.self.inside)))) c.files.result.now
left_so c = c.leave_files.ensures.left ∙ ap (λ k. fold without_file k c.files.result.now)
    (c.leave-2.ensures.left ∙ ap (without_location c.in-Some.task.directory false)
    (c.leave.ensures.left ∙ ap (without_location c.in-Some.task.root false)
    (kept_is (the_view c.self.inside) c.self.inside.store c.self.invariant)))

-- overlays that are left were there
overlays_so : (c : goal.After-drop-task-6) → OverlaysLeft c.self.inside.store.overlays
    c.leave_namespace.new.store.overlays
overlays_so c =
    let old = c.self.inside.store.overlays in
    left_twice old c.leave_files.new.store.overlays c.leave_namespace.new.store.overlays
    (left_twice old c.leave-2.new.store.overlays c.leave_files.new.store.overlays
    (left_twice old c.leave.new.store.overlays c.leave-2.new.store.overlays c.leave.ensures.overlays
    c.leave-2.ensures.overlays) c.leave_files.ensures.overlays) c.leave_namespace.ensures.overlays

done : (c : goal.After-drop-task-6) → IsDone (the_view c.self.inside) c.args.name.now ToExit (after c)
done c =
    let permits : Permits (the_view c.self.inside) c.args.name.now ToExit =
    subst (λ value. Permits value c.args.name.now ToExit) (sym c.self.view_is) c.requires in
    done_in_store (the_view c.self.inside) (after c) c.self.inside.store c.leave_namespace.new.store c.self.invariant
    (overlays_so c) c.args.name.now ToExit permits
    (task_exits (the_view c.self.inside) c.args.name.now c.in-Some.task c.files.result.now
    (kept c.leave_files.new.mounts c.leave_files.new.store)
    c.leave_namespace.new.mounts c.leave_namespace.new.groups c.leave_namespace.new.store.plain
    (map merged_of c.leave_namespace.new.store.overlays)
    (entries_of c.leave_namespace.new.namespaces.entries) c.exit.new.self.tasks c.self.invariant permits
    (sym (ap (option_map task_of) c.in-Some.is) ∙ c.exit.ensures.value) (tasks_are c.exit.ensures.rest) (record {
      root = c.leave.ensures.slot;
      directory = c.leave-2.ensures.slot;
      slots = c.leave_files.ensures.slots;
      places = c.files.ensures.locations;
      writes = c.files.ensures.writes;
      is = left_so c;
    }) c.leave_namespace.ensures.namespaces c.leave_namespace.ensures.mounts)

pub invariant_of-self-2 : goal.invariant_of-self-2
invariant_of-self-2 c = held_with (done c).held c.exit.new.self.births

pub returns-clause-ok : goal.returns-clause-ok
returns-clause-ok c = subst (λ value. Becomes value c.args.name.now ToExit (after c)) c.self.view_is (done c).becomes

pub returns-clause-counts : goal.returns-clause-counts
returns-clause-counts c = record {
  numbers = ap (λ (value : WorldValue). value.next) c.self.view_is;
  births = births_are c.exit.ensures.rest ∙ ap (λ (value : WorldValue). value.births) c.self.view_is;
}
