use Rattle.std.proofs.Common.{arith, nat_eq, ap, ◌∙◌}
use Rattle.vt_fs.specs.Trees.Slots.{inodes_in}
use Rattle.vt_fs.specs.Trees.TreeValue.{TreeValue, inodes_of, with_unnamed}
use Rattle.vt_fs.proofs.tree.NamesKept.{new_keeps, no_entries}
use Rattle.vt_fs.proofs.tree.trees.Tree.create_unnamed.Goals as goal

pub insert_reserved-requires : goal.insert_reserved-requires
insert_reserved-requires c = omega (
  arith,
  c.self.invariant.1.room,
  ap (λ (value : TreeValue). value.promised) c.self.view_is,
  c.requires.promised,
)

pub returns-clause-made : goal.returns-clause-made
returns-clause-made c =
    let inserted = rw c.into_node.ensures at c.insert_reserved.ensures.inserted in
    let len = c.insert_reserved.ensures.len in
    (λ i. record { root = c.self.inside.root; inode = inserted i; count = len i })
    ∙ ap (λ value. with_unnamed nat_eq (inodes_of value) c.insert_reserved.result c.args.node) c.self.view_is

-- an inode without entries
pub invariant_of-self : goal.invariant_of-self
invariant_of-self c =
    let root = c.self.inside.root in
    let inserted = c.insert_reserved.ensures in
    let promised = ap (λ (value : TreeValue). value.promised) c.self.view_is in (
      new_keeps (inodes_in root c.self.inside.slots) (inodes_in root c.insert_reserved.new.self)
          c.insert_reserved.result c.args.node _ (rw c.into_node.ensures at inserted.inserted)
          (no_entries _ c.args.node.content c.requires.node) c.self.invariant.0,
      record {
        room = omega (arith, c.self.invariant.1.room, inserted.room, promised, c.requires.promised);
        reach = λ some. omega (
          arith,
          c.self.invariant.1.reach (omega (arith, promised, c.requires.promised)),
          inserted.room,
          inserted.len,
        );
      },
    )
