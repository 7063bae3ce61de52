use Rattle.std.proofs.Common.{◌≡◌, ◌<◌, ◌-◌, refl, false, nat_eq, sym, ap, ◌∙◌, arith}
use Rattle.vt_spec.proofs.Common.{chain, is_among, parent_above}
use Rattle.vt_fs.specs.Trees.TreeValue.{inodes_of}
use Rattle.vt_fs.proofs.tree.InodeLemmas.{climb}
use Rattle.vt_fs.proofs.tree.trees.Tree.is_under.Goals as goal

pub loop-left-preserved : goal.loop-left-preserved
loop-left-preserved c =
    let inodes = inodes_of c.args.self.now in
    let some : 0 < c.loop-left.left = omega arith in
    let other : nat_eq c.args.top c.loop-left.here ≡ false = cc in
    let below : nat_eq c.loop-left.here inodes.root
    ≡ false = sym (ap (λ value. nat_eq c.loop-left.here (inodes_of value).root) c.self.view_is ∙ refl)
    ∙ sym c.if-eq-2.ensures in
    ap (λ parent. is_among nat_eq c.args.top
    (chain (c.loop-left.left - 1) (parent_above nat_eq inodes) parent)) c.parent-here.ensures
    ∙ sym (climb inodes c.args.top c.loop-left.here c.loop-left.left some other below) ∙ c.loop-left.invariant
