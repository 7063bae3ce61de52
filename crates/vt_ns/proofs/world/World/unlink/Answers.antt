use Rattle.std.proofs.Common.{sym, subst, arith}
use Rattle.vt_spec.proofs.Common.{Remove}
use Rattle.vt_ns.proofs.Common.{Becomes, Permits, change_fits, number_of, with_store}
use Rattle.vt_permits.specs.GrantValue.{remove_permit}
use Rattle.vt_permits.specs.declared.grant.RemoveGrant.TheVariants.{Unlink}
use Rattle.vt_ns.specs.contracts.world.World.{the_view}
use Rattle.vt_ns.proofs.world.FileAnswers.{unlinked_in, unlinked_is_kept, unlink_is_done}
use Rattle.vt_ns.proofs.world.PlainStored.{files_stored}
use Rattle.vt_ns.proofs.world.World.unlink.Goals as goal

pub unlink-requires-clause-one_filesystem : goal.unlink-requires-clause-one_filesystem
unlink-requires-clause-one_filesystem c =
    unlinked_in (the_view c.self.inside) c.self.invariant c.args.name.now c.args.gone.directory c.args.gone.name.items
    c.args.gone.object (omega arith) (omega arith) (subst (λ value. Permits value c.args.name.now
    (remove_permit (Unlink c.args.gone))) (sym c.self.view_is) c.requires)

pub unlink-requires-clause-there : goal.unlink-requires-clause-there
unlink-requires-clause-there c =
    rw c.plain_mut.ensures.value (unlinked_is_kept (the_view c.self.inside) c.self.invariant c.args.name.now
    c.args.gone.directory c.args.gone.name.items c.args.gone.object (omega arith) (omega arith)
    (subst (λ value. Permits value c.args.name.now (remove_permit (Unlink c.args.gone)))
    (sym c.self.view_is) c.requires))

pub unlink-requires-clause-named : goal.unlink-requires-clause-named
unlink-requires-clause-named c =
    rw c.plain_mut.ensures.value (rw c.as_slice.ensures.value ((change_fits (the_view c.self.inside) c.self.invariant
    c.args.name.now c.args.gone.directory (omega arith)
    (Remove (number_of c.args.gone.directory.node) c.args.gone.name.items (number_of c.args.gone.object))
    (subst (λ value. Permits value c.args.name.now (remove_permit (Unlink c.args.gone)))
    (sym c.self.view_is) c.requires)).0))

pub unlink-requires-clause-empty : goal.unlink-requires-clause-empty
unlink-requires-clause-empty c =
    rw c.plain_mut.ensures.value ((change_fits (the_view c.self.inside) c.self.invariant c.args.name.now c.args.gone.directory (omega arith)
    (Remove (number_of c.args.gone.directory.node) c.args.gone.name.items (number_of c.args.gone.object))
    (subst (λ value. Permits value c.args.name.now (remove_permit (Unlink c.args.gone)))
    (sym c.self.view_is) c.requires)).1)

pub invariant_of-self : goal.invariant_of-self
invariant_of-self c =
    let permits = subst (λ value. Permits value c.args.name.now
    (remove_permit (Unlink c.args.gone))) (sym c.self.view_is) c.requires in
    (files_stored (the_view c.self.inside) c.self.inside.store c.self.invariant c.args.name.now
    (remove_permit (Unlink c.args.gone)) permits c.unlink.new.self
    (unlink_is_done (the_view c.self.inside) c.self.invariant c.args.name.now c.args.gone.directory
    c.args.gone.name.items c.args.gone.object (omega arith) (omega arith) permits c.unlink.new.self
    (rw c.plain_mut.ensures.value at (rw c.as_slice.ensures.value at c.unlink.ensures)))).held

pub returns-clause-ok : goal.returns-clause-ok
returns-clause-ok c =
    let permits = subst (λ value. Permits value c.args.name.now
    (remove_permit (Unlink c.args.gone))) (sym c.self.view_is) c.requires in
    subst (λ value. Becomes value c.args.name.now (remove_permit (Unlink c.args.gone))
    (with_store (record c.self.inside.store { plain = c.unlink.new.self }) (the_view c.self.inside))) c.self.view_is
    (files_stored (the_view c.self.inside) c.self.inside.store c.self.invariant c.args.name.now
    (remove_permit (Unlink c.args.gone)) permits c.unlink.new.self
    (unlink_is_done (the_view c.self.inside) c.self.invariant c.args.name.now c.args.gone.directory
    c.args.gone.name.items c.args.gone.object (omega arith) (omega arith) permits c.unlink.new.self
    (rw c.plain_mut.ensures.value at (rw c.as_slice.ensures.value at c.unlink.ensures)))).becomes
