use Rattle.std.proofs.Common.{ap, cond, nat_eq, sym, ◌∙◌}
use Rattle.vt_spec.proofs.Common.{holds_of, location_on_copy}
use Rattle.vt_mounting.proofs.Common.{ascending_filter, attached_in, counted, location_of, mounts_in}
use Rattle.vt_mounting.specs.Attach.Copying.{copy_numbers}
use Rattle.vt_mount.proofs.AttachedLemmas.{found_among, rising_ids}
use Rattle.vt_mounting.proofs.attach.copying.moved.Goals as goal

pub on_copy-requires-clause-order : goal.on_copy-requires-clause-order
on_copy-requires-clause-order c = rising_ids c.attached_in-originals.result.now
    (attached_in (counted c.args.namespace.count) c.args.mounts.now) c.attached_in-originals.ensures.are
    (ascending_filter (λ mount. holds_of (nat_eq (counted c.args.namespace.count)) mount.namespace)
    (mounts_in c.args.mounts.now) c.attached_in-originals.ensures.order)

pub returns-then-is_in : goal.returns-then-is_in
returns-then-is_in c =
    let all = attached_in (counted c.args.namespace.count) c.args.mounts.now in
    c.on_copy.ensures all c.attached_in-originals.ensures.are
    ∙ sym (ap (λ b. cond b (location_on_copy (copy_numbers c.args.next all) (location_of c.args.at))
    (location_of c.args.at)) (found_among (counted c.args.at.mount.count)
    (λ mount. holds_of (nat_eq (counted c.args.namespace.count)) mount.namespace)
    (mounts_in c.args.mounts.now) c.attached_in-originals.ensures.order ∙ sym c.is_in.ensures ∙ c.if-is_in.true))

pub returns-else-is_in : goal.returns-else-is_in
returns-else-is_in c =
    let all = attached_in (counted c.args.namespace.count) c.args.mounts.now in
    sym (ap (λ b. cond b (location_on_copy (copy_numbers c.args.next all) (location_of c.args.at))
    (location_of c.args.at)) (found_among (counted c.args.at.mount.count)
    (λ mount. holds_of (nat_eq (counted c.args.namespace.count)) mount.namespace)
    (mounts_in c.args.mounts.now) c.attached_in-originals.ensures.order ∙ sym c.is_in.ensures ∙ c.if-is_in.false))
