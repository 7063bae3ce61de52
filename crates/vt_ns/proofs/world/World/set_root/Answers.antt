use Rattle.std.proofs.Common.{ap, false, map, option_map, subst, sym, ◌≡◌, ◌∙◌}
use Rattle.vt_spec.proofs.Common.{ToSetRoot}
use Rattle.vt_ns.proofs.Common.{Becomes, IsDone, Permits, WorldValue, done_in_store, kept, kept_of, left_itself, left_twice, location_of, merged_of, overlays_of_store, remade, with_location, without_location}
use Rattle.vt_ns.specs.contracts.world.World.{the_view}
use Rattle.vt_mounting.proofs.detach.Places.{root_is_set}
use Rattle.vt_ns.proofs.world.StoresKept.{kept_is}
use Rattle.vt_ns.proofs.world.Births.{births_are, held_with, tasks_are}
use Rattle.vt_ns.proofs.world.NodesUncounted.{counts_none}
use Rattle.vt_ns.proofs.world.World.set_root.Goals as goal

pub hold-requires : goal.hold-requires
hold-requires c = counts_none (the_view c.self.inside) c.self.inside.store c.self.invariant

abbrev after : (c : goal.After-leave) → WorldValue
after c = record (remade (the_view c.self.inside) c.leave.new.mounts c.leave.new.store.plain c.set_root.new.self.tasks) {
  overlays = overlays_of_store c.leave.new.store;
}

-- what the task leaves, once its new place is held
left_so : (c : goal.After-leave) → kept c.leave.new.mounts c.leave.new.store
    ≡ without_location c.in-Some.left false (with_location c.args.root false (kept_of (the_view c.self.inside)))
left_so c = c.leave.ensures.left ∙ ap (without_location c.in-Some.left false)
    (c.in_ok-hold.ensures.ok ∙ ap (with_location c.args.root false)
    (kept_is (the_view c.self.inside) c.self.inside.store c.self.invariant))

done : (c : goal.After-leave) → IsDone (the_view c.self.inside) c.args.name.now
    (ToSetRoot (location_of c.args.root)) (after c)
done c =
    let old = c.self.inside.store in
    let permits : Permits (the_view c.self.inside) c.args.name.now (ToSetRoot (location_of c.args.root)) =
    subst (λ value. Permits value c.args.name.now (ToSetRoot (location_of c.args.root)))
    (sym c.self.view_is) c.requires in
    done_in_store (the_view c.self.inside) (after c) old c.leave.new.store c.self.invariant
    (left_twice old.overlays c.hold.new.store.overlays c.leave.new.store.overlays
    (left_itself old.overlays c.hold.new.store.overlays c.in_ok-hold.ensures.overlays) c.leave.ensures.overlays)
    c.args.name.now (ToSetRoot (location_of c.args.root)) permits
    (root_is_set (the_view c.self.inside) c.args.name.now c.args.root c.in-Some.left c.leave.new.mounts
    c.leave.new.store.plain (map merged_of c.leave.new.store.overlays) c.set_root.new.self.tasks c.self.invariant permits
    c.in_ok-hold.ensures.slot c.leave.ensures.slot
    (sym (ap (option_map location_of) c.in-Some.is) ∙ c.set_root.ensures.left) (tasks_are c.set_root.ensures.rest) (left_so c))

pub invariant_of-self-in-Some : goal.invariant_of-self-in-Some
invariant_of-self-in-Some c = held_with (done c).held c.set_root.new.self.births

pub returns-in-Some-clause-ok : goal.returns-in-Some-clause-ok
returns-in-Some-clause-ok c =
    subst (λ value. Becomes value c.args.name.now (ToSetRoot (location_of c.args.root)) (after c))
    c.self.view_is (done c).becomes

pub returns-in-Some-clause-counts : goal.returns-in-Some-clause-counts
returns-in-Some-clause-counts c = record {
  numbers = ap (λ (value : WorldValue). value.next) c.self.view_is;
  births = births_are c.set_root.ensures.rest ∙ ap (λ (value : WorldValue). value.births) c.self.view_is;
}
