use Rattle.std.proofs.Common.{arith, ap, is_some, option_copied, option_map, rules, Some, sym, ◌<◌, ◌∙◌, ◌≡◌}
use Rattle.vt_spec.proofs.Common.{entries_of}
use Rattle.vt_fs.specs.FilesystemsValue.{files_at, node_seen}
use Rattle.vt_location.specs.declared.locations.NodeRef.{NodeRef}
use Rattle.vt_location.specs.Locations.{inode_of}
use Rattle.vt_node.specs.Ranks.{name_ranked}
use Rattle.vt_upper_overlay.proofs.Ranked.{has_name}
use Rattle.vt_upper_overlay.proofs.names.has_name.Goals as goal

pub returns-in-Some : goal.returns-in-Some
returns-in-Some c =
    let plain = c.args.trees.now in
    let count = c.args.file.filesystem.count in
    let in_one = ap (λ (n : NodeRef). n.filesystem) c.node_ref.ensures.value ∙ c.requires in
    let there : Some (node_seen count c.in-Some.node.now) ≡ (files_at plain count).tree.node (inode_of
    c.args.directory) = (λ i. Some (node_seen (sym in_one i).count c.in-Some.node.now)) ∙ sym (ap (λ o. option_map
    (node_seen c.node_ref.result.filesystem.count) (option_copied o)) c.in-Some.is) ∙ c.node.ensures ∙ (λ i.
    (files_at plain (in_one i).count).tree.node (c.node_ref.ensures.number i)) in
    let some : c.is_some.result ≡ is_some (name_ranked (entries_of c.in-Some.node.now.content) c.args.file.slot 0) =
    search rules in
    let small : c.args.file.slot < 18446744073709551616 = let h = c.node-in-Some.type_inv in let e =
    c.node-in-Some.ensures in omega (arith, h, e) in
    some ∙ has_name count (files_at plain count).tree (inode_of c.args.directory) c.in-Some.node.now
    c.args.file.slot small there
