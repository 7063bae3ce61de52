use Rattle.std.proofs.Common.{ap, is_some, None, option_copied, option_map, Some, sym, true≢false, ◌∙◌, ◌≡◌}
use Rattle.vt_spec.proofs.Common.{same_Some}
use Rattle.vt_location.specs.declared.locations.NodeRef.{NodeRef}
use Rattle.vt_location.specs.Locations.{inode_of, number_of}
use Rattle.vt_fs.specs.FilesystemsValue.{files_at, node_seen}
use Rattle.vt_copyup.specs.Copied.{copied}
use Rattle.vt_copyup.proofs.Seen.{copied-seen}
use Rattle.vt_copyup.proofs.unnamed.plan_unnamed.Goals as goal

pub unreachable-requires : goal.unreachable-requires
unreachable-requires c =
    let trees = c.args.trees.now in
    let none : (files_at trees c.args.object.inode.filesystem.count).tree.node (inode_of c.args.object.inode) ≡ None =
    sym (ap (λ (n : NodeRef). (files_at trees n.filesystem.count).tree.node (number_of n)) c.node_ref.ensures.value)
    ∙ sym c.node.ensures
    ∙ ap (λ o. option_map (node_seen c.node_ref.result.filesystem.count) (option_copied o)) c.in_default.is in
    true≢false (sym c.requires ∙ ap is_some none)

pub returns-clause-node : goal.returns-clause-node
returns-clause-node c = λ node at.
    let trees = c.args.trees.now in
    let f = c.args.object.inode.filesystem.count in
    let found = c.in-Some.found.now in
    let is : Some (node_seen f found) ≡ (files_at trees f).tree.node (inode_of c.args.object.inode) =
    ap (λ (n : NodeRef). Some (node_seen n.filesystem.count found)) (sym c.node_ref.ensures.value)
    ∙ sym (ap (λ o. option_map (node_seen c.node_ref.result.filesystem.count) (option_copied o)) c.in-Some.is)
    ∙ c.node.ensures
    ∙ ap (λ (n : NodeRef). (files_at trees n.filesystem.count).tree.node (number_of n)) c.node_ref.ensures.value in
    c.in_ok-node.ensures ∙ sym (copied-seen c.args.with_bytes f found)
    ∙ ap (copied c.args.with_bytes) (same_Some (node_seen f found) node (is ∙ at))
