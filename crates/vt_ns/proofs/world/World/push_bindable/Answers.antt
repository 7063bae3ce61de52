use Rattle.std.proofs.Common.{ap, arith, rules, subst, suc, sym, nat_eq, ◌-◌, ◌≡◌, ◌∙◌, ◌∷◌}
use Rattle.vt_spec.proofs.Common.{OnOk_then, YieldsList-from_filter, YieldsList-from_map, YieldsList-from_rev_slice, children, items_from_extend, common_steps}
use Rattle.vt_ns.proofs.Common.{IsHeld, WorldValue, counted, mounts_in, numbers}
use Rattle.vt_ns.specs.Trees.{bindable_to_come}
use Rattle.vt_ns.proofs.world.BoundTrees.{bindable, bindable_kids, branch_of, next-deep, next-flat}
use Rattle.vt_ns.proofs.world.World.push_bindable.Goals as goal

pub returns-then-branch-eq0 : goal.returns-then-branch-eq0
returns-then-branch-eq0 c = grind (arith, common_steps, next-flat)

pub returns : goal.returns
returns c =
    let mounts = mounts_in c.args.self.now.mounts in
    let held = subst IsHeld c.self.view_is c.self.invariant in
    let deep : c.args.branch.depth ≡ suc (c.args.branch.depth - 1) = omega (arith, c.if-branch-eq0.false) in
    let kids = bindable_kids mounts held.in_world.mounts.one_number
    (counted c.args.branch.mount.count) c.children.result.now
    (c.children.ensures.children ∙ ap (λ (value : WorldValue). numbers
    (children nat_eq (mounts_in value.mounts) (counted c.args.branch.mount.count))) c.self.view_is) in
    OnOk_then c.extend.result
    (λ pushed. next-deep mounts c.args.waiting.now.items c.args.branch (c.args.branch.depth - 1)
    (bindable mounts) c.children.result.now deep kids
    ∙ ap (λ waiting. counted c.args.branch.mount.count ∷ bindable_to_come mounts waiting) (sym pushed.0))
    (items_from_extend c.extend.result c.extend.ensures.ran (YieldsList-from_map _ (branch_of (c.args.branch.depth - 1))
    (YieldsList-from_filter _ (bindable mounts) (YieldsList-from_rev_slice c.children.result.now cc)
    (let same : c.map.result.iter.p ≡ c.filter.result.p = cc in same ∙ c.filter.ensures.closure)
    (λ x b q k. search rules)) c.map.ensures.closure (λ x r q k. search rules)))
