use Rattle.std.proofs.Common.{ℕ, ◌≡◌, ◌-◌, ap, arith, suc, sym, ◌∙◌, take_all}
use Rattle.vt_spec.proofs.Common.{Mount, is_unbindable, list_any, list_any_at}
use Rattle.vt_location.specs.declared.numbers.MountId.{MountId}
use Rattle.vt_location.specs.Numbers.{counted}
use Rattle.vt_mount.specs.MountsValue.{mounts_in}
use Rattle.vt_mount.proofs.TreeSearchLemmas.{any-children, any_within}
use Rattle.vt_mount.proofs.mounts.Mounts.+has_unbindable_within.Goals as goal

pub returns-then-has_unbindable_within : goal.returns-then-has_unbindable_within
returns-then-has_unbindable_within t c =
    let mounts = mounts_in c.args.self.now in
    let test = λ (mount : Mount ℕ). is_unbindable mount.propagation in
    let kids = c.children-child-items.result.now in
    let deep : c.args.depth ≡ suc (c.args.depth - 1) = omega (arith, c.if-depth-eq0.false) in
    sym (list_any_at (λ (id : MountId). any_within test mounts (c.args.depth - 1) (counted id.count)) kids
    c.loop-child.child-index _ c.loop-child-test.true
    (sym c.has_unbindable_within.ensures ∙ c.if-has_unbindable_within.true))
    ∙ sym (any-children test mounts c.children-child-items.ensures.order c.args.depth (c.args.depth - 1) (counted c.args.id.count)
    kids deep (sym c.is_unbindable.ensures ∙ c.if-is_unbindable.false) c.children-child-items.ensures.children)

pub returns : goal.returns
returns t c =
    let mounts = mounts_in c.args.self.now in
    let test = λ (mount : Mount ℕ). is_unbindable mount.propagation in
    let kids = c.children-child-items.result.now in
    let deep : c.args.depth ≡ suc (c.args.depth - 1) = omega (arith, c.if-depth-eq0.false) in
    sym c.loop-child.invariant
    ∙ ap (list_any (λ (id : MountId). any_within test mounts (c.args.depth - 1) (counted id.count)))
    (take_all c.loop-child.child-index kids c.loop-child-test.false)
    ∙ sym (any-children test mounts c.children-child-items.ensures.order c.args.depth (c.args.depth - 1) (counted c.args.id.count)
    kids deep (sym c.is_unbindable.ensures ∙ c.if-is_unbindable.false) c.children-child-items.ensures.children)
