use Rattle.std.proofs.Common.{sym, subst, ◌∙◌, map, ap}
use Rattle.vt_spec.proofs.Common.{ToOpen}
use Rattle.vt_ns.proofs.Common.{Becomes, Permits, WorldValue, access_of, location_of, merged_of, with_location, with_store}
use Rattle.vt_ns.specs.contracts.world.World.{the_view}
use Rattle.vt_ns.proofs.world.FilesOpened.{file_is_opened, may_open_more}
use Rattle.vt_ns.proofs.world.StoresKept.{kept_is, same_in_store}
use Rattle.vt_ns.proofs.world.Births.{births_are, held_with, tasks_are}
use Rattle.vt_ns.proofs.world.NodesUncounted.{counts_none}
use Rattle.vt_ns.proofs.world.World.open.Goals as goal

pub has_room-requires : goal.has_room-requires
has_room-requires c = counts_none (the_view c.self.inside) c.self.inside.store c.self.invariant

pub hold_once_more-requires-clause-none : goal.hold_once_more-requires-clause-none
hold_once_more-requires-clause-none c = counts_none (the_view c.self.inside) c.self.inside.store c.self.invariant

pub open-requires : goal.open-requires
open-requires c = may_open_more (the_view c.self.inside) c.self.invariant c.args.name.now (location_of c.args.file)
    (access_of c.args.access)
    (subst (λ value. Permits value c.args.name.now (ToOpen (location_of c.args.file) (access_of c.args.access)))
    (sym c.self.view_is) c.requires)

pub invariant_of-self-2 : goal.invariant_of-self-2
invariant_of-self-2 c =
    let permits = subst (λ value. Permits value c.args.name.now
    (ToOpen (location_of c.args.file) (access_of c.args.access))) (sym c.self.view_is) c.requires in
    held_with (same_in_store (the_view c.self.inside)
    (record (the_view c.self.inside) { mounts = c.hold_once_more.new.mounts; tasks = c.open.new.self.tasks })
    c.self.inside.store c.hold_once_more.new.store c.self.invariant c.hold_once_more.ensures.overlays
    c.args.name.now (ToOpen (location_of c.args.file) (access_of c.args.access)) permits
    (file_is_opened (the_view c.self.inside) c.args.name.now
    (record { location = c.args.file; access = c.args.access }) c.hold_once_more.new.mounts
    c.hold_once_more.new.store.plain (map merged_of c.hold_once_more.new.store.overlays) c.open.new.self.tasks
    c.self.invariant permits c.hold_once_more.ensures.slot (tasks_are c.in_ok-number.ensures.ok) (c.hold_once_more.ensures.held
    ∙ (λ i. with_location c.args.file (c.writes.ensures i)
    (kept_is (the_view c.self.inside) c.self.inside.store c.self.invariant i))))).held c.open.new.self.births

pub returns-clause-ok : goal.returns-clause-ok
returns-clause-ok c =
    let permits = subst (λ value. Permits value c.args.name.now
    (ToOpen (location_of c.args.file) (access_of c.args.access))) (sym c.self.view_is) c.requires in
    subst (λ value. Becomes value c.args.name.now (ToOpen (location_of c.args.file) (access_of c.args.access))
    (with_store c.hold_once_more.new.store (record (the_view c.self.inside) {
      mounts = c.hold_once_more.new.mounts;
      tasks = c.open.new.self.tasks;
    }))) c.self.view_is (same_in_store (the_view c.self.inside)
    (record (the_view c.self.inside) { mounts = c.hold_once_more.new.mounts; tasks = c.open.new.self.tasks })
    c.self.inside.store c.hold_once_more.new.store c.self.invariant c.hold_once_more.ensures.overlays
    c.args.name.now (ToOpen (location_of c.args.file) (access_of c.args.access)) permits
    (file_is_opened (the_view c.self.inside) c.args.name.now
    (record { location = c.args.file; access = c.args.access }) c.hold_once_more.new.mounts
    c.hold_once_more.new.store.plain (map merged_of c.hold_once_more.new.store.overlays) c.open.new.self.tasks
    c.self.invariant permits c.hold_once_more.ensures.slot (tasks_are c.in_ok-number.ensures.ok) (c.hold_once_more.ensures.held
    ∙ (λ i. with_location c.args.file (c.writes.ensures i)
    (kept_is (the_view c.self.inside) c.self.inside.store c.self.invariant i))))).becomes

pub returns-clause-counts : goal.returns-clause-counts
returns-clause-counts c = record {
  numbers = ap (λ (value : WorldValue). value.next) c.self.view_is;
  births = births_are c.in_ok-number.ensures.ok ∙ ap (λ (value : WorldValue). value.births) c.self.view_is;
}
