use Rattle.std.proofs.Common.{◌+◌, ap, false, map, option_copied, option_map, rules, subst, sym, ◌≡◌, ◌∙◌}
use Rattle.vt_spec.proofs.Common.{ToFork}
use Rattle.vt_ns.proofs.Common.{Becomes, IsDone, Permits, WorldValue, entries_of, kept, kept_of, merged_of, overlays_of_store, task_of, with_location}
use Rattle.vt_ns.specs.contracts.world.World.{the_view}
use Rattle.vt_ns.proofs.CountingLemmas.{room_left}
use Rattle.vt_ns.proofs.world.ForkedTasks.{may_fork, task_is_forked}
use Rattle.vt_ns.proofs.world.RemainingTasks.{remade_in}
use Rattle.vt_ns.proofs.world.StoresKept.{kept_is, same_in_store}
use Rattle.vt_ns.proofs.world.Births.{held_with}
use Rattle.vt_ns.proofs.world.NodesUncounted.{counts_none}
use Rattle.vt_ns.proofs.world.World.fork.Goals as goal

pub has_room-requires : goal.has_room-requires
has_room-requires c = counts_none (the_view c.self.inside) c.self.inside.store c.self.invariant

pub has_room-requires-else-not-has_room : goal.has_room-requires-else-not-has_room
has_room-requires-else-not-has_room c = counts_none (the_view c.self.inside) c.self.inside.store c.self.invariant

pub hold_once_more-requires-clause-none : goal.hold_once_more-requires-clause-none
hold_once_more-requires-clause-none c = counts_none (the_view c.self.inside) c.self.inside.store c.self.invariant

pub fork-requires : goal.fork-requires
fork-requires c = may_fork (the_view c.self.inside) c.self.invariant c.args.name.now c.args.cred
    (subst (λ value. Permits value c.args.name.now (ToFork c.args.cred)) (sym c.self.view_is) c.requires)

pub hold_once_more-requires-2-clause-room : goal.hold_once_more-requires-2-clause-room
hold_once_more-requires-2-clause-room c =
    room_left c.unwrap-parent.result.now.root c.unwrap-parent.result.now.directory c.self.inside.mounts
    c.hold_once_more.new.mounts c.self.inside.store c.hold_once_more.new.store (c.has_room-else-not-has_room.ensures.0
    (let room = c.if-not-has_room-2.false in search rules)) c.hold_once_more.ensures.held

-- the world but for its overlays
abbrev forked : (c : goal.After-count_task) → WorldValue
forked c = remade_in (the_view c.self.inside) c.hold_once_more-2.new.mounts c.hold_once_more-2.new.store.plain
    (entries_of c.count_task.new.namespaces.entries) c.fork.new.self.tasks

abbrev after : (c : goal.After-count_task) → WorldValue
after c = record (forked c) { overlays = overlays_of_store c.hold_once_more-2.new.store }

-- what the child holds
held_so : (c : goal.After-count_task) → kept c.hold_once_more-2.new.mounts c.hold_once_more-2.new.store
    ≡ with_location c.unwrap-parent.result.now.directory false
    (with_location c.unwrap-parent.result.now.root false (kept_of (the_view c.self.inside)))
held_so c = c.hold_once_more-2.ensures.held ∙ ap (with_location c.unwrap-parent.result.now.directory false)
    (c.hold_once_more.ensures.held ∙ ap (with_location c.unwrap-parent.result.now.root false)
    (kept_is (the_view c.self.inside) c.self.inside.store c.self.invariant))

done : (c : goal.After-count_task) → IsDone (the_view c.self.inside) c.args.name.now (ToFork c.args.cred) (after c)
done c =
    let permits : Permits (the_view c.self.inside) c.args.name.now (ToFork c.args.cred) =
    subst (λ value. Permits value c.args.name.now (ToFork c.args.cred)) (sym c.self.view_is) c.requires in
    same_in_store (the_view c.self.inside) (forked c) c.self.inside.store c.hold_once_more-2.new.store c.self.invariant
    (c.hold_once_more-2.ensures.overlays ∙ c.hold_once_more.ensures.overlays) c.args.name.now (ToFork c.args.cred)
    permits (task_is_forked (the_view c.self.inside) c.self.invariant c.args.name.now c.args.cred permits
    c.unwrap-parent.result.now
    (sym (ap (λ found. option_map task_of (option_copied found)) c.unwrap-parent.ensures) ∙ c.get.ensures.found)
    c.hold_once_more.ensures.slot c.hold_once_more-2.ensures.slot
    c.hold_once_more-2.new.mounts c.hold_once_more-2.new.store.plain
    (map merged_of c.hold_once_more-2.new.store.overlays)
    (entries_of c.count_task.new.namespaces.entries) c.fork.new.self.tasks
    c.count_task.ensures c.in_ok-child.ensures.tasks (held_so c))

pub invariant_of-self-2 : goal.invariant_of-self-2
invariant_of-self-2 c = held_with (done c).held c.fork.new.self.births

pub returns-clause-ok : goal.returns-clause-ok
returns-clause-ok c =
    subst (λ value. Becomes value c.args.name.now (ToFork c.args.cred) (after c)) c.self.view_is (done c).becomes

pub returns-clause-counts : goal.returns-clause-counts
returns-clause-counts c = record {
  numbers = ap (λ (value : WorldValue). value.next) c.self.view_is;
  births = c.in_ok-child.ensures.births ∙ ap (λ (value : WorldValue). value.births + 1) c.self.view_is;
}
