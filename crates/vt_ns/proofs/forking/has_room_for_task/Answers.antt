use Rattle.std.proofs.Common.{None, Some, ap, arith, refl, subst, sym, ◌∙◌, ◌<◌, IfSome, option_copied, ltb-true}
use Rattle.vt_spec.proofs.Common.{common_steps}
use Rattle.vt_ns.proofs.Common.{NamespaceEntry}
use Rattle.vt_mounting.proofs.detach.NamespaceEntries.{entry_found}
use Rattle.vt_ns.proofs.forking.has_room_for_task.Goals as goal

pub returns-in-Some : goal.returns-in-Some
returns-in-Some c =
    let found = entry_found c.args.id.count c.args.namespaces.now.entries (Some c.in-Some.namespace.now) (sym
    c.get.ensures.value ∙ ap option_copied c.in-Some.is) in
    grind (arith, common_steps, ltb-true c.in-Some.namespace.now.tasks 18446744073709551615)

pub returns-in-None : goal.returns-in-None
returns-in-None c = (
  λ all. subst (λ o. IfSome o (λ (entry : NamespaceEntry). entry.tasks < 18446744073709551615))
      (sym (entry_found c.args.id.count c.args.namespaces.now.entries None
      (sym c.get.ensures.value ∙ ap option_copied c.in-None.is))) tt,
  λ few. refl,
)
