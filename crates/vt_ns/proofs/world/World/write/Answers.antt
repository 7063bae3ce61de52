use Rattle.std.proofs.Common.{sym, subst, arith}
use Rattle.vt_spec.proofs.Common.{SetBytes, ToChange}
use Rattle.vt_ns.proofs.Common.{Becomes, Permits, change_fits, location_of, number_of, with_store}
use Rattle.vt_ns.specs.contracts.world.World.{the_view}
use Rattle.vt_ns.proofs.world.FileAnswers.{write_is_done}
use Rattle.vt_ns.proofs.world.PlainStored.{files_stored}
use Rattle.vt_ns.proofs.world.World.write.Goals as goal

pub write-requires-clause-file : goal.write-requires-clause-file
write-requires-clause-file c =
    rw c.plain_mut.ensures.value ((change_fits (the_view c.self.inside) c.self.invariant c.args.name.now c.args.file (omega arith)
    (SetBytes (number_of c.args.file.node) c.args.bytes.items) (subst (λ value. Permits value c.args.name.now
    (ToChange (location_of c.args.file) (SetBytes (number_of c.args.file.node) c.args.bytes.items)))
    (sym c.self.view_is) c.requires)).0)

pub write-requires-clause-size : goal.write-requires-clause-size
write-requires-clause-size c =
    (change_fits (the_view c.self.inside) c.self.invariant c.args.name.now c.args.file (omega arith)
    (SetBytes (number_of c.args.file.node) c.args.bytes.items) (subst (λ value. Permits value c.args.name.now
    (ToChange (location_of c.args.file) (SetBytes (number_of c.args.file.node) c.args.bytes.items)))
    (sym c.self.view_is) c.requires)).1

pub invariant_of-self : goal.invariant_of-self
invariant_of-self c =
    let permits = subst (λ value. Permits value c.args.name.now
    (ToChange (location_of c.args.file) (SetBytes (number_of c.args.file.node) c.args.bytes.items))) (sym c.self.view_is) c.requires in
    (files_stored (the_view c.self.inside) c.self.inside.store c.self.invariant c.args.name.now
    (ToChange (location_of c.args.file) (SetBytes (number_of c.args.file.node) c.args.bytes.items)) permits c.write.new.self
    (write_is_done (the_view c.self.inside) c.self.invariant c.args.name.now c.args.file c.args.bytes.items
    (omega arith) permits c.write.new.self (rw c.plain_mut.ensures.value at c.write.ensures))).held

pub returns-clause-ok : goal.returns-clause-ok
returns-clause-ok c =
    let permits = subst (λ value. Permits value c.args.name.now
    (ToChange (location_of c.args.file) (SetBytes (number_of c.args.file.node) c.args.bytes.items))) (sym c.self.view_is) c.requires in
    subst (λ value. Becomes value c.args.name.now
    (ToChange (location_of c.args.file) (SetBytes (number_of c.args.file.node) c.args.bytes.items))
    (with_store (record c.self.inside.store { plain = c.write.new.self }) (the_view c.self.inside))) c.self.view_is
    (files_stored (the_view c.self.inside) c.self.inside.store c.self.invariant c.args.name.now
    (ToChange (location_of c.args.file) (SetBytes (number_of c.args.file.node) c.args.bytes.items)) permits c.write.new.self
    (write_is_done (the_view c.self.inside) c.self.invariant c.args.name.now c.args.file c.args.bytes.items
    (omega arith) permits c.write.new.self (rw c.plain_mut.ensures.value at c.write.ensures))).becomes
