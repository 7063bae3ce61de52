use Rattle.std.proofs.Common.{map, refl, arith, subst, sym}
use Rattle.vt_spec.proofs.Common.{Private, ToPrivate, ToUnbindable, Unbindable, length-map, common_steps}
use Rattle.vt_ns.proofs.Common.{counted}
use Rattle.vt_ns.proofs.RetypedMounts.{set_retyped, shared_if_ok, slaves_retyped}
use Rattle.vt_request.specs.Requests.{type_word_of}
use Rattle.vt_ns.specs.Retyped.{IsRetyped}
use Rattle.vt_ns.proofs.retyping.change_types.Goals as goal

pub returns-in-Shared-clause-ok : goal.returns-in-Shared-clause-ok
returns-in-Shared-clause-ok c = grind (arith, common_steps, map, counted, shared_if_ok, length-map)

pub returns-in-Slave-clause-ok : goal.returns-in-Slave-clause-ok
returns-in-Slave-clause-ok c =
    let numbers = map (λ id. counted id.count) c.args.ids.now in
    subst (λ word. IsRetyped (type_word_of word) c.args.next c.args.next numbers c.args.groups.now
    c.make_slaves.new.groups c.args.mounts.now c.make_slaves.new.mounts) (sym c.in-Slave.is)
    (slaves_retyped c.args.next numbers c.args.groups.now c.make_slaves.new.groups c.args.mounts.now c.make_slaves.new.mounts
    c.make_slaves.ensures.groups c.make_slaves.ensures.types)

pub returns-in-Private-clause-ok : goal.returns-in-Private-clause-ok
returns-in-Private-clause-ok c =
    let numbers = map (λ id. counted id.count) c.args.ids.now in
    subst (λ word. IsRetyped (type_word_of word) c.args.next c.args.next numbers c.args.groups.now
    c.leave_all.new.groups c.args.mounts.now c.leave_all.new.mounts) (sym c.in-Private.is)
    (set_retyped ToPrivate Private
    (λ new old. refl) c.args.next numbers refl c.args.groups.now c.leave_all.new.groups c.args.mounts.now c.set_all.new.mounts
    c.leave_all.new.mounts refl c.set_all.ensures c.leave_all.ensures.private c.leave_all.ensures.types)

pub returns-in-Unbindable-clause-ok : goal.returns-in-Unbindable-clause-ok
returns-in-Unbindable-clause-ok c =
    let numbers = map (λ id. counted id.count) c.args.ids.now in
    subst (λ word. IsRetyped (type_word_of word) c.args.next c.args.next numbers c.args.groups.now
    c.leave_all-in-Unbindable.new.groups c.args.mounts.now c.leave_all-in-Unbindable.new.mounts)
    (sym c.in-Unbindable.is) (set_retyped ToUnbindable Unbindable
    (λ new old. refl) c.args.next numbers refl c.args.groups.now c.leave_all-in-Unbindable.new.groups c.args.mounts.now
    c.set_all-in-Unbindable.new.mounts c.leave_all-in-Unbindable.new.mounts refl c.set_all-in-Unbindable.ensures
    c.leave_all-in-Unbindable.ensures.unbindable c.leave_all-in-Unbindable.ensures.types)
