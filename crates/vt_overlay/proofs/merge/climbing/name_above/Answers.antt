use Rattle.vt_fs.specs.Trees.TreeValue.{tree_of}
use Rattle.vt_fs.proofs.PathLemmas.{one_name_in}
use Rattle.vt_overlay.proofs.merge.climbing.name_above.Goals as goal

pub name_of-requires : goal.name_of-requires
name_of-requires c =
    one_name_in (tree_of c.args.tree.now) c.requires c.args.directory c.parent.result c.in_ok-node.field-0.now
    c.parent.ensures c.in_ok-node.ensures
