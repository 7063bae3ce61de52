use Rattle.std.proofs.Common.{None, Some, ap, option_map, subst, sym, ◌∙◌}
use Rattle.vt_location.specs.MountValue.{mount_of}
use Rattle.vt_location.specs.Numbers.{counted}
use Rattle.vt_mount.specs.Indexed.{IsIndexed}
use Rattle.vt_mount.specs.MountsValue.{in_order, without}
use Rattle.vt_mount.proofs.EntryLemmas.{kept-without, mount-found}
use Rattle.vt_mount.proofs.KeptLemmas.{indexed-left, loses-without, slots-without}
use Rattle.vt_mount.proofs.OrderLemmas.{found-in_order, in_order-removed, rises-in_order}
use Rattle.vt_mount.proofs.mounts.Mounts.remove.Goals as goal

pub returns-in_err-kept-clause-value : goal.returns-in_err-kept-clause-value
returns-in_err-kept-clause-value c = ap (option_map mount_of) c.from_residual.ensures
    ∙ mount-found c.args.id c.self.inside.by_number.entries _ None c.self.view_is
    (sym c.swap_remove.ensures.value ∙ c.in_err-kept.was)

pub returns-in_err-kept-clause-rest : goal.returns-in_err-kept-clause-rest
returns-in_err-kept-clause-rest c =
    kept-without c.args.id c.self.inside.by_number.entries _ c.swap_remove.ensures.updates.0
    ∙ ap (without (counted c.args.id.count)) c.self.view_is

pub invariant_of-self-2 : goal.invariant_of-self-2
invariant_of-self-2 c =
    let map = c.self.inside.by_number in
    let kept = in_order map.entries in
    subst (IsIndexed c.leave.new.self) (sym (in_order-removed c.args.id map.entries _ c.swap_remove.ensures.updates.0))
    (indexed-left c.args.id c.in_ok-kept.kept c.mount-mount.result kept _ (rises-in_order map.entries)
    (found-in_order c.args.id map.entries ∙ sym c.swap_remove.ensures.value ∙ c.in_ok-kept.was)
    c.mount-mount.ensures (loses-without c.args.id kept) c.self.inside.indexes c.leave.new.self
    (slots-without c.args.id kept c.self.invariant.slots)
    c.leave.ensures.namespace c.leave.ensures.parent c.leave.ensures.place c.self.invariant)

pub returns-clause-value : goal.returns-clause-value
returns-clause-value c = ap (λ mount. Some (mount_of mount)) c.mount-mount.ensures
    ∙ mount-found c.args.id c.self.inside.by_number.entries _ (Some c.in_ok-kept.kept) c.self.view_is
    (sym c.swap_remove.ensures.value ∙ c.in_ok-kept.was)

pub returns-clause-rest : goal.returns-clause-rest
returns-clause-rest c = kept-without c.args.id c.self.inside.by_number.entries _ c.swap_remove.ensures.updates.0
    ∙ ap (without (counted c.args.id.count)) c.self.view_is
