use Rattle.std.proofs.Common.{ap, map, option_map, subst, sym, ◌≡◌, ◌∙◌}
use Rattle.vt_spec.proofs.Common.{ToClose, opens_for_writing}
use Rattle.vt_ns.proofs.Common.{Becomes, IsDone, Permits, WorldValue, access_of, after, among_from_list_all, done_in_store, kept, kept_of, merged_of, overlays_of_store, remade, without_location}
use Rattle.vt_tasks.specs.Open.{numbered}
use Rattle.vt_tasks.specs.TasksValue.{has_files_in_order}
use Rattle.vt_ns.specs.contracts.world.World.{the_view}
use Rattle.vt_mounting.proofs.detach.Closing.{file_is_closed, nothing_is_closed}
use Rattle.vt_ns.proofs.world.StoresKept.{kept_is}
use Rattle.vt_ns.proofs.world.Births.{births_are, held_with, tasks_are}
use Rattle.vt_ns.proofs.world.NodesUncounted.{counts_none}
use Rattle.vt_ns.proofs.world.World.close.Goals as goal

pub leave-requires : goal.leave-requires
leave-requires c = counts_none (the_view c.self.inside) c.self.inside.store c.self.invariant

abbrev after_leaving : (c : goal.After-leave) → WorldValue
after_leaving c = record (remade (the_view c.self.inside) c.leave.new.mounts c.leave.new.store.plain c.close.new.self.tasks) {
  overlays = overlays_of_store c.leave.new.store;
}

-- what the file leaves
left_so : (c : goal.After-leave) → kept c.leave.new.mounts c.leave.new.store
    ≡ without_location c.in-Some.closed.location (opens_for_writing (access_of c.in-Some.closed.access))
    (kept_of (the_view c.self.inside))
left_so c = c.leave.ensures.left ∙ (λ i. without_location c.in-Some.closed.location (c.writes.ensures i)
    (kept_is (the_view c.self.inside) c.self.inside.store c.self.invariant i))

done : (c : goal.After-leave) → IsDone (the_view c.self.inside) c.args.name.now (ToClose c.args.descriptor)
    (after_leaving c)
done c =
    let permits : Permits (the_view c.self.inside) c.args.name.now (ToClose c.args.descriptor) =
    subst (λ value. Permits value c.args.name.now (ToClose c.args.descriptor)) (sym c.self.view_is) c.requires in
    done_in_store (the_view c.self.inside) (after_leaving c) c.self.inside.store c.leave.new.store c.self.invariant
    c.leave.ensures.overlays c.args.name.now (ToClose c.args.descriptor) permits
    (file_is_closed (the_view c.self.inside) c.args.name.now c.args.descriptor c.in-Some.closed c.leave.new.mounts
    c.leave.new.store.plain (map merged_of c.leave.new.store.overlays) c.close.new.self.tasks c.self.invariant permits
    c.leave.ensures.slot (among_from_list_all has_files_in_order c.self.inside.tasks.tasks c.close.ensures.order)
    (sym (ap (option_map (numbered c.args.descriptor)) c.in-Some.is) ∙ c.close.ensures.value)
    (tasks_are c.close.ensures.rest) (left_so c))

pub invariant_of-self : goal.invariant_of-self
invariant_of-self c = held_with (done c).held c.close.new.self.births

pub returns-in-Some-clause-ok : goal.returns-in-Some-clause-ok
returns-in-Some-clause-ok c =
    subst (λ value. Becomes value c.args.name.now (ToClose c.args.descriptor) (after_leaving c)) c.self.view_is
    (done c).becomes

pub invariant_of-self-in_default : goal.invariant_of-self-in_default
invariant_of-self-in_default c = held_with
    (nothing_is_closed (the_view c.self.inside) c.args.name.now c.args.descriptor c.close.new.self.tasks c.self.invariant
    (subst (λ value. Permits value c.args.name.now (ToClose c.args.descriptor)) (sym c.self.view_is) c.requires)
    (sym (ap (option_map (numbered c.args.descriptor)) c.in_default.is) ∙ c.close.ensures.value)
    (tasks_are c.close.ensures.rest)).held c.close.new.self.births

pub returns-in_default-clause-ok : goal.returns-in_default-clause-ok
returns-in_default-clause-ok c = subst (λ value. Becomes value c.args.name.now (ToClose c.args.descriptor)
    (after (the_view c.self.inside) c.close.new.self.tasks)) c.self.view_is
    (nothing_is_closed (the_view c.self.inside) c.args.name.now c.args.descriptor c.close.new.self.tasks c.self.invariant
    (subst (λ value. Permits value c.args.name.now (ToClose c.args.descriptor)) (sym c.self.view_is) c.requires)
    (sym (ap (option_map (numbered c.args.descriptor)) c.in_default.is) ∙ c.close.ensures.value)
    (tasks_are c.close.ensures.rest)).becomes

pub returns-in-Some-clause-counts : goal.returns-in-Some-clause-counts
returns-in-Some-clause-counts c = record {
  numbers = ap (λ (value : WorldValue). value.next) c.self.view_is;
  births = births_are c.close.ensures.rest ∙ ap (λ (value : WorldValue). value.births) c.self.view_is;
}

pub returns-in_default-clause-counts : goal.returns-in_default-clause-counts
returns-in_default-clause-counts c = record {
  numbers = ap (λ (value : WorldValue). value.next) c.self.view_is;
  births = births_are c.close.ensures.rest ∙ ap (λ (value : WorldValue). value.births) c.self.view_is;
}
