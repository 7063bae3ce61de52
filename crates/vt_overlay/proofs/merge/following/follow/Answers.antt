use Rattle.std.proofs.Common.{◌∙◌, ap, sym, option_copied}
use Rattle.vt_spec.proofs.Common.{led}
use Rattle.vt_location.specs.Locations.{inode_of}
use Rattle.vt_fs.specs.FilesystemsValue.{files_at}
use Rattle.vt_overlay.specs.Merge.LayerValue.{cut_on}
use Rattle.vt_overlay.proofs.merge.Cuts.{cuts_on}
use Rattle.vt_overlay.proofs.merge.TreesLent.{tree_lent}
use Rattle.vt_overlay.proofs.merge.following.follow.Goals as goal

pub returns-clause-object : goal.returns-clause-object
returns-clause-object g c = c.follow_in.ensures.object
    ∙ ap (λ tree. led tree (inode_of c.args.directory) (g.W.Way.names c.args.path.now))
    (tree_lent c.args.trees.now c.args.directory.filesystem.count (option_copied c.get.result) c.get.ensures)

pub returns-clause-cut : goal.returns-clause-cut
returns-clause-cut g c = c.follow_in.ensures.cut
    ∙ ap (λ tree. cut_on tree (g.W.Way.names c.args.path.now) (inode_of c.args.directory))
    (tree_lent c.args.trees.now c.args.directory.filesystem.count (option_copied c.get.result) c.get.ensures)
    ∙ sym (cuts_on (files_at c.args.trees.now c.args.directory.filesystem.count).tree
    (g.W.Way.names c.args.path.now) (inode_of c.args.directory))
