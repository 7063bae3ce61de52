use Rattle.std.proofs.Common.{nat_eq, ap, refl, ◌∙◌, arith, ℕ}
use Rattle.vt_spec.proofs.Common.{entries-node_with_bytes, node_with_bytes, with_changed, Inodes}
use Rattle.vt_fs.specs.Trees.TreeValue.{inodes_of}
use Rattle.vt_fs.proofs.tree.NamesKept.{change_keeps, counted_as}
use Rattle.vt_fs.specs.Trees.Slots.{inodes_in}
use Rattle.vt_fs.proofs.tree.PromisedKept.{promised_kept}
use Rattle.vt_fs.proofs.tree.trees.Tree.write.Goals as goal

pub returns : goal.returns
returns c = c.set_bytes.ensures.set c.self.inside.root ∙ ap (λ value. with_changed nat_eq (inodes_of value) c.args.file
    (node_with_bytes c.args.bytes.items)) c.self.view_is

pub invariant_of-self : goal.invariant_of-self
invariant_of-self c = (
  counted_as _ _ _ _ (c.set_bytes.ensures.set c.self.inside.root) refl
      (change_keeps (inodes_in c.self.inside.root c.self.inside.slots) c.args.file (node_with_bytes c.args.bytes.items) _
      (entries-node_with_bytes c.args.bytes.items) c.self.invariant.0),
  promised_kept c.self.inside.promised c.self.inside.slots c.set_bytes.new.slots c.self.inside.names c.self.inside.names
      (omega arith) c.self.invariant.1 (omega (arith, c.set_bytes.ensures.room)) (omega (
        arith,
        c.set_bytes.ensures.room,
        ap (λ (inodes : Inodes ℕ). inodes.count) (c.set_bytes.ensures.set c.self.inside.root),
      )),
)
