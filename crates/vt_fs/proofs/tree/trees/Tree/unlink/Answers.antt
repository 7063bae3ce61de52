use Rattle.std.proofs.Common.{Some, nat_eq, ap, ◌∙◌, refl, arith, ℕ}
use Rattle.vt_spec.proofs.Common.{entry_at, node_without_entry, with_changed, Inodes}
use Rattle.vt_spec.specs.Inodes.{without_replaced}
use Rattle.vt_fs.specs.Trees.TreeValue.{inodes_of}
use Rattle.vt_fs.proofs.tree.NamesKept.{counted_as, name_less, replaced_keeps}
use Rattle.vt_fs.specs.Trees.Slots.{inodes_in}
use Rattle.vt_fs.specs.Trees.TreeValue.{TreeValue, tree_of}
use Rattle.vt_fs.proofs.tree.PromisedKept.{promised_kept}
use Rattle.vt_fs.proofs.tree.trees.Tree.unlink.Goals as goal

pub returns-clause-removed : goal.returns-clause-removed
returns-clause-removed c = c.remove_object.ensures.removed c.self.inside.root
    ∙ ap (λ inodes. without_replaced nat_eq inodes (Some c.args.object))
    (c.remove_entry.ensures.removed c.self.inside.root) ∙ ap (λ value. without_replaced nat_eq
    (with_changed nat_eq (inodes_of value) c.args.directory (node_without_entry c.args.name.now))
    (Some c.args.object)) c.self.view_is

pub returns-clause-promised : goal.returns-clause-promised
returns-clause-promised c = ap (λ (value : TreeValue). value.promised) c.self.view_is

-- a name less, and a use
pub invariant_of-self : goal.invariant_of-self
invariant_of-self c =
    let root = c.self.inside.root in
    let named = ap (λ value. entry_at (tree_of value) c.args.directory c.args.name.now) c.self.view_is
    ∙ c.requires.named in (
      counted_as _ _ _ _ (c.remove_object.ensures.removed root) c.take.ensures.listings
          (replaced_keeps (inodes_in root c.remove_entry.new.slots) c.args.object _
          (counted_as _ _ _ _ (c.remove_entry.ensures.removed root) refl
          (name_less (inodes_in root c.self.inside.slots) c.args.directory c.args.name.now c.args.object _ named
          c.self.invariant.0))),
      promised_kept c.self.inside.promised c.self.inside.slots c.remove_object.new.slots c.self.inside.names
          c.take.new.self (omega (arith, c.take.ensures.len)) c.self.invariant.1
          (omega (arith, c.remove_entry.ensures.room, c.remove_object.ensures.room)) (omega (
            arith,
            c.remove_entry.ensures.room,
            ap (λ (inodes : Inodes ℕ). inodes.count) (c.remove_entry.ensures.removed root),
            c.remove_object.ensures.total,
          )),
    )
