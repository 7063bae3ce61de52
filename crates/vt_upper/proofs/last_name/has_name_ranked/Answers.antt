use Rattle.std.proofs.Common.{arith, ap, is_some, option_copied, option_map, rules, Some, sym, ◌<◌, ◌∙◌, ◌≡◌}
use Rattle.vt_spec.proofs.Common.{entries_in, entries_of}
use Rattle.vt_fs.specs.FilesystemsValue.{files_at, node_seen}
use Rattle.vt_location.proofs.NumberLemmas.{exchanged_slot}
use Rattle.vt_location.specs.declared.locations.NodeRef.{NodeRef}
use Rattle.vt_location.specs.Locations.{inode_of}
use Rattle.vt_node.specs.Ranks.{name_ranked}
use Rattle.vt_overlay.proofs.RanksSeen.{ranked_seen}
use Rattle.vt_upper.proofs.last_name.has_name_ranked.Goals as goal

pub returns-in-Some : goal.returns-in-Some
returns-in-Some c =
    let trees = c.args.trees.now in
    let count = c.args.file.filesystem.count in
    let slot = c.args.file.slot in
    let node = c.in-Some.node.now in
    let in_one = ap (λ (n : NodeRef). n.filesystem) c.node_ref.ensures.value ∙ c.requires in
    let there : Some (node_seen count node) ≡ (files_at trees count).tree.node (inode_of c.args.directory) =
    (λ i. Some (node_seen (sym in_one i).count node))
    ∙ sym (ap (λ o. option_map (node_seen c.node_ref.result.filesystem.count) (option_copied o)) c.in-Some.is)
    ∙ c.node.ensures ∙ (λ i. (files_at trees (in_one i).count).tree.node (c.node_ref.ensures.number i)) in
    let some : c.is_some.result ≡ is_some (name_ranked (entries_of node.content) slot c.args.rank) = search rules in
    let small : slot < 18446744073709551616 =
    let h = c.node-in-Some.type_inv in let e = c.node-in-Some.ensures in omega (arith, h, e) in
    some ∙ ap is_some (ranked_seen count node slot c.args.rank)
    ∙ (λ i. is_some (name_ranked (entries_in (there i)) (exchanged_slot count slot small i) c.args.rank))
