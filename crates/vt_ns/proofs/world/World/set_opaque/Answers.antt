use Rattle.std.proofs.Common.{sym, subst, arith}
use Rattle.vt_spec.proofs.Common.{SetMark, ToChange}
use Rattle.vt_ns.proofs.Common.{Becomes, Permits, location_of, number_of, with_store}
use Rattle.vt_ns.specs.contracts.world.World.{the_view}
use Rattle.vt_mounting.proofs.detach.FileEvents.{mark_is_set}
use Rattle.vt_ns.proofs.world.PlainStored.{files_stored}
use Rattle.vt_ns.proofs.world.World.set_opaque.Goals as goal

pub invariant_of-self : goal.invariant_of-self
invariant_of-self c =
    let permits = subst (λ value. Permits value c.args.name.now
    (ToChange (location_of c.args.directory) (SetMark (number_of c.args.directory.node) c.args.opaque))) (sym c.self.view_is) c.requires in
    (files_stored (the_view c.self.inside) c.self.inside.store c.self.invariant c.args.name.now
    (ToChange (location_of c.args.directory) (SetMark (number_of c.args.directory.node) c.args.opaque)) permits c.set_opaque.new.self
    (mark_is_set (the_view c.self.inside) c.self.invariant c.args.name.now c.args.directory c.args.opaque
    c.set_opaque.new.self (omega arith) permits (rw c.plain_mut.ensures.value at c.set_opaque.ensures))).held

pub returns-clause-ok : goal.returns-clause-ok
returns-clause-ok c =
    let permits = subst (λ value. Permits value c.args.name.now
    (ToChange (location_of c.args.directory) (SetMark (number_of c.args.directory.node) c.args.opaque))) (sym c.self.view_is) c.requires in
    subst (λ value. Becomes value c.args.name.now
    (ToChange (location_of c.args.directory) (SetMark (number_of c.args.directory.node) c.args.opaque))
    (with_store (record c.self.inside.store { plain = c.set_opaque.new.self }) (the_view c.self.inside))) c.self.view_is
    (files_stored (the_view c.self.inside) c.self.inside.store c.self.invariant c.args.name.now
    (ToChange (location_of c.args.directory) (SetMark (number_of c.args.directory.node) c.args.opaque)) permits c.set_opaque.new.self
    (mark_is_set (the_view c.self.inside) c.self.invariant c.args.name.now c.args.directory c.args.opaque
    c.set_opaque.new.self (omega arith) permits (rw c.plain_mut.ensures.value at c.set_opaque.ensures))).becomes
