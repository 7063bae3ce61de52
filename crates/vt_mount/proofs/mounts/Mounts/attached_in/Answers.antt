use Rattle.std.proofs.Common.{ap, filter, nat_eq, sym, ◌∙◌}
use Rattle.vt_spec.proofs.Common.{holds_of}
use Rattle.vt_location.specs.Numbers.{counted}
use Rattle.vt_mount.specs.Indexes.{is_in}
use Rattle.vt_mount.specs.MountsValue.{are_ascending, in_order, mounts_in}
use Rattle.vt_mount.proofs.MoveLemmas.{ascending-kept}
use Rattle.vt_mount.proofs.PlaceLemmas.{counts, in-agrees, numbers, numbers-seen}
use Rattle.vt_mount.proofs.mounts.Mounts.attached_in.Goals as goal

pub returns-clause-are : goal.returns-clause-are
returns-clause-are c =
    let namespace = c.args.namespace in
    ap counts (c.get.ensures ∙ c.self.invariant.namespace namespace)
    ∙ numbers-seen (is_in namespace) (λ mount. holds_of (nat_eq (counted namespace.count)) mount.namespace)
    (in-agrees namespace) (in_order c.self.inside.by_number.entries) c.self.invariant.slots
    ∙ ap (λ now. numbers (filter (λ mount. holds_of (nat_eq (counted namespace.count)) mount.namespace)
    (mounts_in now))) c.self.view_is

pub returns-clause-order : goal.returns-clause-order
returns-clause-order c =
    ap (λ now. are_ascending (mounts_in now)) (sym c.self.view_is) ∙ ascending-kept c.self.inside.by_number.entries
