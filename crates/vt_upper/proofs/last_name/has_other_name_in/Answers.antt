use Rattle.std.proofs.Common.{ap, arith, is_some, sym, true, ◌&&◌, ◌<◌, ◌≡◌, ◌∙◌}
use Rattle.vt_spec.proofs.Common.{entries_in}
use Rattle.vt_births.specs.Births.{node_above}
use Rattle.vt_fs.specs.FilesystemsValue.{files_at}
use Rattle.vt_upper.specs.LastName.{first_rank}
use Rattle.vt_location.proofs.NumberLemmas.{exchanged_back, exchanged_slot}
use Rattle.vt_location.specs.Locations.{inode_of, number_of}
use Rattle.vt_location.specs.Numbers.{exchanged, inode_number}
use Rattle.vt_node.specs.Ranks.{name_ranked}
use Rattle.vt_upper_overlay.specs.MergedAbove.{directory_path}
use Rattle.vt_upper.proofs.last_name.has_other_name_in.Goals as goal

pub returns-then-has_name_ranked : goal.returns-then-has_name_ranked
returns-then-has_name_ranked c =
    let trees = c.args.trees.now in
    let overlay = c.args.overlay.now in
    let count = c.args.inode.filesystem.count in
    let other = c.args.other in
    let small : other < 18446744073709551616 =
    let h = c.index-slot.type_inv in let e = c.index-slot.ensures in omega (arith, h, e) in
    let same : inode_number count c.index-slot.result ≡ exchanged count other =
    ap (inode_number count) c.index-slot.ensures ∙ sym (exchanged_slot count other small) in
    let slot : c.index-slot.result ≡ exchanged count (exchanged count other) =
    c.index-slot.ensures ∙ sym (exchanged_back count other) in
    let rank = c.first_rank-rank.ensures ∙ ap (first_rank overlay c.args.directory) slot in
    let named : is_some (name_ranked (entries_in ((files_at trees count).tree.node (exchanged count other)))
    (inode_of c.args.inode) (first_rank overlay c.args.directory (exchanged count (exchanged count other)))) ≡ true =
    sym (λ i. is_some (name_ranked (entries_in ((files_at trees count).tree.node (same i))) (inode_of c.args.inode)
    (rank i))) ∙ sym c.has_name_ranked.ensures ∙ c.if-has_name_ranked.true in
    let shows = c.shows_directory.ensures
    ∙ ap (λ s. is_some (directory_path trees overlay
    (number_of (node_above overlay.nodes.births overlay.layers.number s)))) slot in
    shows ∙ (λ i. sym named i && is_some (directory_path trees overlay
    (number_of (node_above overlay.nodes.births overlay.layers.number (exchanged count (exchanged count other))))))
