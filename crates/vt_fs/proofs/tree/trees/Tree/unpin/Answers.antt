use Rattle.std.proofs.Common.{nat_eq, ap, refl, ◌∙◌, arith}
use Rattle.vt_spec.proofs.Common.{unpinned}
use Rattle.vt_fs.specs.Trees.TreeValue.{inodes_of}
use Rattle.vt_fs.proofs.tree.NamesKept.{counted_as, unpin_keeps}
use Rattle.vt_fs.specs.Trees.Slots.{inodes_in}
use Rattle.vt_fs.proofs.tree.PromisedKept.{promised_kept}
use Rattle.vt_fs.proofs.tree.trees.Tree.unpin.Goals as goal

pub returns : goal.returns
returns c = c.release.ensures.released c.self.inside.root
    ∙ ap (λ value. unpinned nat_eq (inodes_of value) c.args.object) c.self.view_is

pub invariant_of-self : goal.invariant_of-self
invariant_of-self c = (
  counted_as _ _ _ _ (c.release.ensures.released c.self.inside.root) refl
      (unpin_keeps (inodes_in c.self.inside.root c.self.inside.slots) c.args.object _ c.self.invariant.0),
  promised_kept c.self.inside.promised c.self.inside.slots c.release.new.slots c.self.inside.names c.self.inside.names
      (omega arith) c.self.invariant.1 c.release.ensures.room c.release.ensures.total,
)
