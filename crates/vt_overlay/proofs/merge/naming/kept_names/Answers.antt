use Rattle.std.proofs.Common.{rules, Some, ◌≡◌, ◌∙◌, ap, map, subst, sym, IsPermutation}
use Rattle.vt_spec.proofs.Common.{names_in}
use Rattle.vt_location.specs.Locations.{inode_of}
use Rattle.vt_fs.specs.FilesystemsValue.{files_at, node_seen}
use Rattle.vt_overlay.proofs.merge.NamesHad.{names_seen}
use Rattle.vt_overlay.proofs.merge.naming.kept_names.Goals as goal

pub returns-in-Some : goal.returns-in-Some
returns-in-Some c =
    let f = c.args.directory.filesystem.count in
    let is : Some (node_seen f c.in-Some.node.now)
    ≡ (files_at c.args.trees.now f).tree.node (inode_of c.args.directory) = search rules in
    subst (IsPermutation (map (λ name. name.items) c.kept_names.result.now))
    (sym (names_seen f c.in-Some.node.now) ∙ ap names_in is) c.kept_names.ensures
