use Rattle.std.proofs.Common.{ap, arith, refl, subst, sym, ◌∙◌, ◌<◌, IfSome}
use Rattle.vt_spec.proofs.Common.{option_copied_mut, common_steps}
use Rattle.vt_ns.proofs.Common.{NamespaceEntry}
use Rattle.vt_ns.proofs.CountingLemmas.{nothing_counted, task_counted}
use Rattle.vt_mounting.proofs.detach.NamespaceEntries.{entry_found}
use Rattle.vt_ns.proofs.forking.count_task.Goals as goal

pub overflow_add-namespace : goal.overflow_add-namespace
overflow_add-namespace c =
    let few : c.in-Some.namespace.now.tasks < 18446744073709551615 =
    subst (λ o. IfSome o (λ (entry : NamespaceEntry). entry.tasks < 18446744073709551615))
    (entry_found c.args.id.count c.args.namespaces.now.entries _
    (sym c.get_mut.ensures.value ∙ ap option_copied_mut c.in-Some.is)) c.requires in
    omega (arith, few)

pub returns-in-Some : goal.returns-in-Some
returns-in-Some c =
    task_counted c.args.id.count c.args.namespaces.now.entries _ c.in-Some.namespace.now _ c.get_mut.ensures.unique
    (sym c.get_mut.ensures.value ∙ ap option_copied_mut c.in-Some.is) (c.get_mut.follows.holds _).0 refl

pub returns-in_default : goal.returns-in_default
returns-in_default c = grind (arith, common_steps, nothing_counted)
