use Rattle.std.proofs.Common.{ap, arith, suc, sym, ◌-◌, ◌≡◌, ◌∙◌, ◌∷◌}
use Rattle.vt_spec.proofs.Common.{OnOk_then}
use Rattle.vt_location.specs.Numbers.{counted}
use Rattle.vt_mount.specs.MountsValue.{mounts_in}
use Rattle.vt_mount.specs.Waiting.{to_come}
use Rattle.vt_mount.proofs.TreeLemmas.{next-deep, next-flat}
use Rattle.vt_mount.proofs.mounts.Mounts.push_children.Goals as goal

pub returns : goal.returns
returns c =
    let mounts = mounts_in c.args.self.now in
    let deep : c.args.branch.depth ≡ suc (c.args.branch.depth - 1) = omega (arith, c.if-branch-eq0.false) in
    OnOk_then c.push_reversed.result (λ pushed. next-deep mounts c.args.waiting.now.items c.args.branch
    (c.args.branch.depth - 1) c.children.result.now deep c.children.ensures.children
    ∙ ap (λ waiting. counted c.args.branch.mount.count ∷ to_come mounts waiting) (sym pushed)) c.push_reversed.ensures

pub returns-then-branch-eq0 : goal.returns-then-branch-eq0
returns-then-branch-eq0 c = next-flat
    (mounts_in c.args.self.now) c.args.waiting.now.items c.args.branch c.if-branch-eq0.true
