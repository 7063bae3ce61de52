use Rattle.vt_spec.proofs.Common.{common_steps}
use Rattle.std.proofs.Common.{sym, subst, arith, OnOk}
use Rattle.vt_ns.proofs.Common.{Becomes, Permits, location_of, with_store}
use Rattle.vt_permits.specs.GrantValue.{write_permit}
use Rattle.vt_permits.specs.declared.grant.WriteGrant.TheVariants.{Part}
use Rattle.vt_ns.specs.contracts.world.World.{the_view}
use Rattle.vt_ns.proofs.world.FileParts.{no_bytes, nothing_is_written, some_bytes, write_part_fits, write_part_is_answered}
use Rattle.vt_ns.proofs.world.PlainStored.{answered_stored}
use Rattle.vt_ns.proofs.world.World.write_part.Goals as goal

pub invariant_of-self : goal.invariant_of-self
invariant_of-self c = grind (arith, common_steps, c.plain_mut-plain.ensures.value, c.self.invariant)

pub returns-then-is_empty-clause-ok : goal.returns-then-is_empty-clause-ok
returns-then-is_empty-clause-ok c =
    let none = no_bytes c.args.part.bytes.items c.is_empty.result
    (rw c.as_slice-bytes.ensures.value at c.is_empty.ensures) c.if-is_empty.true in
    subst (λ value. Becomes value c.args.name.now (write_permit (Part c.args.part))
    (with_store (record c.self.inside.store { plain = c.plain_mut-plain.result.now }) (the_view c.self.inside)))
    c.self.view_is
    (subst (λ plain. Becomes (the_view c.self.inside) c.args.name.now (write_permit (Part c.args.part))
    (with_store (record c.self.inside.store { plain = plain }) (the_view c.self.inside)))
    (sym c.plain_mut-plain.ensures.value)
    (nothing_is_written (the_view c.self.inside) c.self.invariant c.args.name.now
    (location_of c.args.part.file) c.args.part.offset c.args.part.bytes.items none))

pub write_at-requires-clause-file : goal.write_at-requires-clause-file
write_at-requires-clause-file c =
    rw c.plain_mut-plain.ensures.value ((write_part_fits (the_view c.self.inside) c.self.invariant c.args.name.now
    c.args.part.file c.args.part.offset c.args.part.bytes.items (omega arith)
    (subst (λ value. Permits value c.args.name.now (write_permit (Part c.args.part))) (sym c.self.view_is) c.requires)
    (some_bytes c.args.part.bytes.items c.is_empty.result (rw c.as_slice-bytes.ensures.value at c.is_empty.ensures) c.if-is_empty.false)).0)

pub write_at-requires-clause-size : goal.write_at-requires-clause-size
write_at-requires-clause-size c =
    rw c.as_slice-bytes.ensures.value ((write_part_fits (the_view c.self.inside) c.self.invariant c.args.name.now
    c.args.part.file c.args.part.offset c.args.part.bytes.items (omega arith)
    (subst (λ value. Permits value c.args.name.now (write_permit (Part c.args.part))) (sym c.self.view_is) c.requires)
    (some_bytes c.args.part.bytes.items c.is_empty.result (rw c.as_slice-bytes.ensures.value at c.is_empty.ensures) c.if-is_empty.false)).1)

pub invariant_of-self-2 : goal.invariant_of-self-2
invariant_of-self-2 c =
    let permits = subst (λ value. Permits value c.args.name.now
    (write_permit (Part c.args.part))) (sym c.self.view_is) c.requires in
    (answered_stored (the_view c.self.inside) c.self.inside.store c.self.invariant c.args.name.now
    (write_permit (Part c.args.part)) permits c.write_at.new.self c.write_at.result
    (rw c.plain_mut-plain.ensures.value at c.write_at.ensures.err)
    (write_part_is_answered (the_view c.self.inside) c.self.invariant c.args.name.now c.args.part.file
    c.args.part.offset c.args.part.bytes.items (omega arith) permits
    (some_bytes c.args.part.bytes.items c.is_empty.result
    (rw c.as_slice-bytes.ensures.value at c.is_empty.ensures) c.if-is_empty.false) c.write_at.new.self c.write_at.result
    (rw c.plain_mut-plain.ensures.value at (rw c.as_slice-bytes.ensures.value at c.write_at.ensures.ok))
    (rw c.plain_mut-plain.ensures.value at c.write_at.ensures.err))).held

pub returns-clause-ok : goal.returns-clause-ok
returns-clause-ok c =
    let permits = subst (λ value. Permits value c.args.name.now
    (write_permit (Part c.args.part))) (sym c.self.view_is) c.requires in
    subst (λ value. OnOk c.write_at.result (Becomes value c.args.name.now (write_permit (Part c.args.part))
    (with_store (record c.self.inside.store { plain = c.write_at.new.self }) (the_view c.self.inside)))) c.self.view_is
    (answered_stored (the_view c.self.inside) c.self.inside.store c.self.invariant c.args.name.now
    (write_permit (Part c.args.part)) permits c.write_at.new.self c.write_at.result
    (rw c.plain_mut-plain.ensures.value at c.write_at.ensures.err)
    (write_part_is_answered (the_view c.self.inside) c.self.invariant c.args.name.now c.args.part.file
    c.args.part.offset c.args.part.bytes.items (omega arith) permits
    (some_bytes c.args.part.bytes.items c.is_empty.result
    (rw c.as_slice-bytes.ensures.value at c.is_empty.ensures) c.if-is_empty.false) c.write_at.new.self c.write_at.result
    (rw c.plain_mut-plain.ensures.value at (rw c.as_slice-bytes.ensures.value at c.write_at.ensures.ok))
    (rw c.plain_mut-plain.ensures.value at c.write_at.ensures.err))).ok
