use Rattle.std.proofs.Common.{Some, ap, subst, sym, rules, ◌≡◌, ◌∙◌, IfSome, option_copied}
use Rattle.vt_spec.proofs.Common.{IsDirectory, IsTree, led}
use Rattle.vt_location.specs.Locations.{inode_of}
use Rattle.vt_overlay.proofs.merge.TreesLent.{tree_lent}
use Rattle.vt_overlay.proofs.merge.climbing.way_down.Goals as goal

pub way_in-requires-clause-tree : goal.way_in-requires-clause-tree
way_in-requires-clause-tree c =
    let is : option_copied c.get.result ≡ Some c.in_ok-get.field-0.now = search rules in
    subst IsTree (sym (tree_lent c.args.trees.now c.args.top.filesystem.count (Some c.in_ok-get.field-0.now)
    (sym is ∙ c.get.ensures))) c.requires.tree

pub returns-clause-leads : goal.returns-clause-leads
returns-clause-leads c =
    let is : option_copied c.get.result ≡ Some c.in_ok-get.field-0.now = search rules in
    subst (λ t. IfSome c.way_in.result (λ way. led t (inode_of c.args.top) way ≡ Some (inode_of c.args.directory)))
    (tree_lent c.args.trees.now c.args.top.filesystem.count (Some c.in_ok-get.field-0.now) (sym is ∙ c.get.ensures))
    c.way_in.ensures.leads

pub returns-clause-directory : goal.returns-clause-directory
returns-clause-directory c =
    let is : option_copied c.get.result ≡ Some c.in_ok-get.field-0.now = search rules in
    subst (λ t. IfSome c.way_in.result (λ way. IsDirectory t (inode_of c.args.directory)))
    (tree_lent c.args.trees.now c.args.top.filesystem.count (Some c.in_ok-get.field-0.now) (sym is ∙ c.get.ensures))
    c.way_in.ensures.directory

pub returns-clause-nowhere : goal.returns-clause-nowhere
returns-clause-nowhere c none directory path leads =
    let is : option_copied c.get.result ≡ Some c.in_ok-get.field-0.now = search rules in
    let seen = tree_lent c.args.trees.now c.args.top.filesystem.count (Some c.in_ok-get.field-0.now)
    (sym is ∙ c.get.ensures) in
    c.way_in.ensures.nowhere none (subst (λ t. IsDirectory t (inode_of c.args.directory)) (sym seen) directory) path
    (ap (λ t. led t (inode_of c.args.top) path) seen ∙ leads)
