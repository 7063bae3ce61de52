use Rattle.std.proofs.Common.{sym, subst, arith, OnOk}
use Rattle.vt_spec.proofs.Common.{AddName}
use Rattle.vt_ns.proofs.Common.{Becomes, Permits, change_fits, number_of, with_store}
use Rattle.vt_permits.specs.GrantValue.{make_permit}
use Rattle.vt_permits.specs.declared.grant.MakeGrant.TheVariants.{Link}
use Rattle.vt_ns.specs.contracts.world.World.{the_view}
use Rattle.vt_ns.proofs.world.FileAnswers.{linked_in, linked_is_kept, link_is_answered}
use Rattle.vt_ns.proofs.world.PlainStored.{answered_stored}
use Rattle.vt_ns.proofs.world.World.link.Goals as goal

pub link-requires-clause-one_filesystem : goal.link-requires-clause-one_filesystem
link-requires-clause-one_filesystem c =
    linked_in (the_view c.self.inside) c.self.invariant c.args.name.now c.args.new.directory c.args.new.name.items
    c.args.new.object (omega arith) (omega arith) (subst (λ value. Permits value c.args.name.now
    (make_permit (Link c.args.new))) (sym c.self.view_is) c.requires)

pub link-requires-clause-there : goal.link-requires-clause-there
link-requires-clause-there c =
    rw c.plain_mut.ensures.value (linked_is_kept (the_view c.self.inside) c.self.invariant c.args.name.now
    c.args.new.directory c.args.new.name.items c.args.new.object (omega arith) (omega arith)
    (subst (λ value. Permits value c.args.name.now (make_permit (Link c.args.new))) (sym c.self.view_is) c.requires))

pub link-requires-clause-directory : goal.link-requires-clause-directory
link-requires-clause-directory c =
    rw c.plain_mut.ensures.value ((change_fits (the_view c.self.inside) c.self.invariant c.args.name.now c.args.new.directory (omega arith)
    (AddName (number_of c.args.new.directory.node) c.args.new.name.items (number_of c.args.new.object))
    (subst (λ value. Permits value c.args.name.now (make_permit (Link c.args.new))) (sym c.self.view_is) c.requires)).0)

pub link-requires-clause-free : goal.link-requires-clause-free
link-requires-clause-free c =
    rw c.plain_mut.ensures.value ((change_fits (the_view c.self.inside) c.self.invariant c.args.name.now c.args.new.directory (omega arith)
    (AddName (number_of c.args.new.directory.node) c.args.new.name.items (number_of c.args.new.object))
    (subst (λ value. Permits value c.args.name.now (make_permit (Link c.args.new))) (sym c.self.view_is) c.requires)).1)

pub link-requires-clause-object : goal.link-requires-clause-object
link-requires-clause-object c =
    rw c.plain_mut.ensures.value ((change_fits (the_view c.self.inside) c.self.invariant c.args.name.now c.args.new.directory (omega arith)
    (AddName (number_of c.args.new.directory.node) c.args.new.name.items (number_of c.args.new.object))
    (subst (λ value. Permits value c.args.name.now (make_permit (Link c.args.new))) (sym c.self.view_is) c.requires)).2)

pub invariant_of-self : goal.invariant_of-self
invariant_of-self c =
    let permits = subst (λ value. Permits value c.args.name.now
    (make_permit (Link c.args.new))) (sym c.self.view_is) c.requires in
    (answered_stored (the_view c.self.inside) c.self.inside.store c.self.invariant c.args.name.now
    (make_permit (Link c.args.new)) permits c.link.new.self c.link.result
    (rw c.plain_mut.ensures.value at c.link.ensures.err)
    (link_is_answered (the_view c.self.inside) c.self.invariant c.args.name.now c.args.new.directory
    c.args.new.name.items c.args.new.object (omega arith) (omega arith) permits c.link.new.self c.link.result
    (rw c.plain_mut.ensures.value at c.link.ensures.ok) (rw c.plain_mut.ensures.value at c.link.ensures.err))).held

pub returns-clause-ok : goal.returns-clause-ok
returns-clause-ok c =
    let permits = subst (λ value. Permits value c.args.name.now
    (make_permit (Link c.args.new))) (sym c.self.view_is) c.requires in
    subst (λ value. OnOk c.link.result (Becomes value c.args.name.now (make_permit (Link c.args.new))
    (with_store (record c.self.inside.store { plain = c.link.new.self }) (the_view c.self.inside)))) c.self.view_is
    (answered_stored (the_view c.self.inside) c.self.inside.store c.self.invariant c.args.name.now
    (make_permit (Link c.args.new)) permits c.link.new.self c.link.result
    (rw c.plain_mut.ensures.value at c.link.ensures.err)
    (link_is_answered (the_view c.self.inside) c.self.invariant c.args.name.now c.args.new.directory
    c.args.new.name.items c.args.new.object (omega arith) (omega arith) permits c.link.new.self c.link.result
    (rw c.plain_mut.ensures.value at c.link.ensures.ok) (rw c.plain_mut.ensures.value at c.link.ensures.err))).ok
