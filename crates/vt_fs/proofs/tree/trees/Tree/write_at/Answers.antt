use Rattle.std.proofs.Common.{nat_eq, ap, ◌∙◌, arith}
use Rattle.vt_spec.proofs.Common.{bytes_in, entries-node_with_bytes, node_with_bytes, on_ok_weaker, overwritten, with_changed}
use Rattle.vt_fs.specs.Trees.TreeValue.{inodes_of, tree_of}
use Rattle.vt_fs.proofs.tree.NamesKept.{change_keeps, either_counted}
use Rattle.vt_fs.specs.Trees.Slots.{inodes_in, node_at}
use Rattle.vt_fs.proofs.tree.PromisedKept.{promised_kept}
use Rattle.vt_fs.proofs.tree.trees.Tree.write_at.Goals as goal

pub returns-clause-ok : goal.returns-clause-ok
returns-clause-ok c = on_ok_weaker c.write_bytes.result (λ written. written
    ∙ ap (λ value. with_changed nat_eq (inodes_of value) c.args.file
    (node_with_bytes (overwritten c.args.offset c.args.bytes.now
    (bytes_in ((tree_of value).node c.args.file))))) c.self.view_is) (c.write_bytes.ensures.ok c.self.inside.root)

-- it is written, or stays as it is
pub invariant_of-self : goal.invariant_of-self
invariant_of-self c =
    let slots = c.self.inside.slots in
    let bytes = overwritten c.args.offset c.args.bytes.now (bytes_in (node_at slots c.args.file)) in (
      either_counted c.write_bytes.result c.self.inside.root slots c.write_bytes.new.slots _ _
          (c.write_bytes.ensures.ok c.self.inside.root) c.write_bytes.ensures.err
          (change_keeps (inodes_in c.self.inside.root slots) c.args.file (node_with_bytes bytes) _
          (entries-node_with_bytes bytes) c.self.invariant.0) c.self.invariant.0,
      promised_kept c.self.inside.promised slots c.write_bytes.new.slots c.self.inside.names c.self.inside.names
          (omega arith) c.self.invariant.1 (omega (arith, c.write_bytes.ensures.room))
          (omega (arith, c.write_bytes.ensures.room, c.write_bytes.ensures.len)),
    )
