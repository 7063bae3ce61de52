use Rattle.std.proofs.Common.{sym, subst, arith}
use Rattle.vt_spec.proofs.Common.{SetAttr, ToChange}
use Rattle.vt_ns.proofs.Common.{Becomes, Permits, location_of, number_of, with_store}
use Rattle.vt_ns.specs.contracts.world.World.{the_view}
use Rattle.vt_mounting.proofs.detach.FileEvents.{attr_is_set}
use Rattle.vt_ns.proofs.world.PlainStored.{files_stored}
use Rattle.vt_ns.proofs.world.World.set_attr.Goals as goal

pub invariant_of-self : goal.invariant_of-self
invariant_of-self c =
    let permits = subst (λ value. Permits value c.args.name.now
    (ToChange (location_of c.args.object) (SetAttr (number_of c.args.object.node) c.args.attr))) (sym c.self.view_is) c.requires in
    (files_stored (the_view c.self.inside) c.self.inside.store c.self.invariant c.args.name.now
    (ToChange (location_of c.args.object) (SetAttr (number_of c.args.object.node) c.args.attr)) permits c.set_attr.new.self
    (attr_is_set (the_view c.self.inside) c.self.invariant c.args.name.now c.args.object c.args.attr c.set_attr.new.self
    (omega arith) permits (rw c.plain_mut.ensures.value at c.set_attr.ensures))).held

pub returns-clause-ok : goal.returns-clause-ok
returns-clause-ok c =
    let permits = subst (λ value. Permits value c.args.name.now
    (ToChange (location_of c.args.object) (SetAttr (number_of c.args.object.node) c.args.attr))) (sym c.self.view_is) c.requires in
    subst (λ value. Becomes value c.args.name.now
    (ToChange (location_of c.args.object) (SetAttr (number_of c.args.object.node) c.args.attr))
    (with_store (record c.self.inside.store { plain = c.set_attr.new.self }) (the_view c.self.inside))) c.self.view_is
    (files_stored (the_view c.self.inside) c.self.inside.store c.self.invariant c.args.name.now
    (ToChange (location_of c.args.object) (SetAttr (number_of c.args.object.node) c.args.attr)) permits c.set_attr.new.self
    (attr_is_set (the_view c.self.inside) c.self.invariant c.args.name.now c.args.object c.args.attr c.set_attr.new.self
    (omega arith) permits (rw c.plain_mut.ensures.value at c.set_attr.ensures))).becomes
