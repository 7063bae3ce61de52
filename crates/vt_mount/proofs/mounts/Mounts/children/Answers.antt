use Rattle.std.proofs.Common.{ap, nat_eq, sym, ◌∙◌}
use Rattle.vt_spec.proofs.Common.{children, stands_on}
use Rattle.vt_location.specs.Numbers.{counted}
use Rattle.vt_mount.specs.Indexes.{is_on}
use Rattle.vt_mount.specs.MountsValue.{are_ascending, in_order, mounts_in}
use Rattle.vt_mount.proofs.MoveLemmas.{ascending-kept}
use Rattle.vt_mount.proofs.PlaceLemmas.{counts, numbers, numbers-seen, on-agrees}
use Rattle.vt_mount.proofs.mounts.Mounts.children.Goals as goal

pub returns-clause-children : goal.returns-clause-children
returns-clause-children c =
    let number = counted c.args.id.count in
    ap counts (c.get.ensures.value ∙ c.self.invariant.parent c.args.id)
    ∙ numbers-seen (is_on c.args.id) (stands_on nat_eq number) (on-agrees c.args.id)
    (in_order c.self.inside.by_number.entries) c.self.invariant.slots
    ∙ ap (λ now. numbers (children nat_eq (mounts_in now) number)) c.self.view_is

pub returns-clause-order : goal.returns-clause-order
returns-clause-order c =
    ap (λ now. are_ascending (mounts_in now)) (sym c.self.view_is) ∙ ascending-kept c.self.inside.by_number.entries
