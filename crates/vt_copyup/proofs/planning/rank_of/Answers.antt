use Rattle.std.proofs.Common.{rules, Some, ap, sym, ◌≡◌, ◌∙◌}
use Rattle.vt_spec.proofs.Common.{entries_in}
use Rattle.vt_location.specs.declared.numbers.FilesystemId.{FilesystemId}
use Rattle.vt_location.specs.Locations.{inode_of}
use Rattle.vt_location.specs.Numbers.{exchanged}
use Rattle.vt_fs.specs.FilesystemsValue.{files_at, node_seen}
use Rattle.vt_node.specs.Ranks.{rank_among}
use Rattle.vt_overlay.proofs.RanksSeen.{rank_seen}
use Rattle.vt_copyup.proofs.planning.rank_of.Goals as goal

pub returns-in-Some : goal.returns-in-Some
returns-in-Some c =
    let f = c.args.directory.filesystem.count in
    let node = c.in-Some.node.now in
    let name = c.args.name.now in
    let is : Some (node_seen f node)
    ≡ (files_at c.args.trees.now f).tree.node (inode_of c.args.directory) = search rules in
    let number : exchanged f c.slot_of.result ≡ inode_of c.args.object =
    ap (λ (id : FilesystemId). exchanged id.count c.slot_of.result) (sym c.requires) ∙ c.slot_of.ensures.number in
    c.rank_of.ensures ∙ rank_seen f node name c.slot_of.result ∙ (λ i. rank_among (entries_in (is i)) name (number i))
