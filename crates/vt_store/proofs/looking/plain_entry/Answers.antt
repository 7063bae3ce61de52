use Rattle.std.proofs.Common.{Some, ap, arith, option_copied, option_map, sym, ◌∙◌, ◌≡◌}
use Rattle.vt_fs.specs.FilesystemsValue.{files_at, node_seen}
use Rattle.vt_location.proofs.NumberLemmas.{exchanged_slot}
use Rattle.vt_location.specs.Locations.{number_of}
use Rattle.vt_location.specs.Numbers.{exchanged}
use Rattle.vt_location.specs.declared.locations.NodeRef.{NodeRef}
use Rattle.vt_overlay.proofs.ObjectsAlike.{seen_twice}
use Rattle.vt_store.proofs.Lending.{entry_lent}
use Rattle.vt_store.proofs.looking.plain_entry.Goals as goal

pub returns-in_err-entry-clause-node : goal.returns-in_err-entry-clause-node
returns-in_err-entry-clause-node c =
    let f = c.args.directory.filesystem.count in
    ap (option_map _) c.from_residual.ensures ∙ ap (option_map (exchanged f)) (sym c.in_err-entry.was ∙ c.entry.ensures)
    ∙ entry_lent f c.args.object.now ((files_at c.args.plain.now f).tree.node (number_of c.args.directory)) c.requires
    c.args.name.now

pub returns-clause-node : goal.returns-clause-node
returns-clause-node c =
    let f = c.args.directory.filesystem.count in
    ap (λ node. Some (number_of node)) c.new-node.ensures
    ∙ ap Some (sym (exchanged_slot f c.in_ok-entry.entry (omega arith)))
    ∙ ap (option_map (exchanged f)) (sym c.in_ok-entry.was ∙ c.entry.ensures)
    ∙ entry_lent f c.args.object.now ((files_at c.args.plain.now f).tree.node (number_of c.args.directory)) c.requires
    c.args.name.now

pub returns-clause-object : goal.returns-clause-object
returns-clause-object c =
    let node = c.new-node.result in
    let own : node.filesystem.count ≡ c.args.directory.filesystem.count =
    ap (λ (node : NodeRef). node.filesystem.count) c.new-node.ensures in
    sym (seen_twice node.filesystem.count (option_copied c.node.result))
    ∙ ap (option_map (node_seen node.filesystem.count)) c.node.ensures
    ∙ (λ i. option_map (node_seen (own i)) ((files_at c.args.plain.now (own i)).tree.node (number_of node)))
