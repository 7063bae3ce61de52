use Rattle.std.proofs.Common.{None, Some, ap, arith, inl, inr, is_some, subst, sym, ◌∙◌, option_copied}
use Rattle.vt_spec.proofs.Common.{holds_of}
use Rattle.vt_location.specs.MountValue.{mount_of}
use Rattle.vt_location.specs.Numbers.{counted}
use Rattle.vt_mount.specs.Indexed.{IsIndexed}
use Rattle.vt_mount.specs.MountsValue.{in_order, is_unused, without}
use Rattle.vt_mount.proofs.EntryLemmas.{entry-found, kept-without, mount-found, unused_kept, used_kept}
use Rattle.vt_mount.proofs.KeptLemmas.{indexed-left, loses-without, slots-without}
use Rattle.vt_mount.proofs.OrderLemmas.{found-in_order, in_order-removed, rises-in_order}
use Rattle.vt_mount.proofs.mounts.Mounts.remove_unused.Goals as goal
use Rattle.vt_mount.proofs.mounts.Mounts.remove_unused.Goals.{then-is_some-via-then-is_some, then-is_some-via-else-is_some+then-kept-gt0}

pub returns-in_err-kept-clause-unused : goal.returns-in_err-kept-clause-unused
returns-in_err-kept-clause-unused c = ap is_some c.from_residual.ensures
    ∙ ap (holds_of is_unused) (entry-found c.args.id c.self.inside.by_number.entries _ None c.self.view_is
    (sym c.kept_under.ensures ∙ ap option_copied c.in_err-kept.was))

pub returns-then-is_some-clause-unused : goal.returns-then-is_some-clause-unused
returns-then-is_some-clause-unused c =
    let kept = c.in_ok-kept.kept.now in
    sym (used_kept c.args.id kept (elim c.then-is_some.branch [
      | then-is_some-via-then-is_some w ↦ inl (sym c.is_some.ensures ∙ w.if-is_some.true)
      | then-is_some-via-else-is_some+then-kept-gt0 w ↦ inr w.if-kept-gt0.true
    ])) ∙ ap (holds_of is_unused) (entry-found c.args.id c.self.inside.by_number.entries _ (Some kept) c.self.view_is
    (sym c.kept_under.ensures ∙ ap option_copied c.in_ok-kept.was))

pub invariant_of-self : goal.invariant_of-self
invariant_of-self c =
    let map = c.self.inside.by_number in
    let kept = in_order map.entries in
    subst (IsIndexed c.leave.new.self) (sym (in_order-removed c.args.id map.entries _ c.swap_remove.ensures.updates.0))
    (indexed-left c.args.id c.in_ok-kept.kept.now c.mount-mount.result kept _ (rises-in_order map.entries)
    (found-in_order c.args.id map.entries ∙ sym c.kept_under.ensures ∙ ap option_copied c.in_ok-kept.was)
    c.mount-mount.ensures (loses-without c.args.id kept) c.self.inside.indexes c.leave.new.self
    (slots-without c.args.id kept c.self.invariant.slots)
    c.leave.ensures.namespace c.leave.ensures.parent c.leave.ensures.place c.self.invariant)

pub returns-clause-value : goal.returns-clause-value
returns-clause-value c =
    sym (mount-found c.args.id c.self.inside.by_number.entries _ (Some c.in_ok-kept.kept.now) c.self.view_is
    (sym c.kept_under.ensures ∙ ap option_copied c.in_ok-kept.was))
    ∙ ap (λ mount. Some (mount_of mount)) (sym c.mount-mount.ensures)

pub returns-clause-unused : goal.returns-clause-unused
returns-clause-unused c =
    let kept = c.in_ok-kept.kept.now in
    sym (unused_kept c.args.id kept (sym c.is_some.ensures ∙ c.if-is_some.false) (omega (arith, c.if-kept-gt0.false)))
    ∙ ap (holds_of is_unused) (entry-found c.args.id c.self.inside.by_number.entries _ (Some kept) c.self.view_is
    (sym c.kept_under.ensures ∙ ap option_copied c.in_ok-kept.was))

pub returns-clause-rest : goal.returns-clause-rest
returns-clause-rest c = kept-without c.args.id c.self.inside.by_number.entries _ c.swap_remove.ensures.updates.0
    ∙ ap (without (counted c.args.id.count)) c.self.view_is
