use Rattle.std.proofs.Common.{ap, length, sym, ◌∙◌}
use Rattle.vt_fs.specs.Trees.TreeValue.{tree_of}
use Rattle.vt_overlay.proofs.merge.GoingUp.{length-names_up}
use Rattle.vt_overlay.proofs.merge.climbing.WayDownWay.len.Goals as goal

pub returns : goal.returns
returns c = sym (length-names_up (tree_of c.self.inside.tree.now) c.self.inside.len c.self.inside.directory)
    ∙ ap length c.self.view_is
