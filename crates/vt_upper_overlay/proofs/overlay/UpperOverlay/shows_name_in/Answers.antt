use Rattle.std.proofs.Common.{ap, arith, is_some, nat_eq, sym, true, ◌&&◌, ◌<◌, ◌≡◌, ◌∙◌}
use Rattle.vt_spec.proofs.Common.{has_entry_to}
use Rattle.vt_location.proofs.NumberLemmas.{exchanged_back, exchanged_slot}
use Rattle.vt_location.specs.Locations.{inode_of, number_of}
use Rattle.vt_location.specs.Numbers.{exchanged, inode_number}
use Rattle.vt_births.specs.Births.{node_above}
use Rattle.vt_fs.specs.FilesystemsValue.{files_at}
use Rattle.vt_upper_overlay.specs.MergedAbove.{directory_path}
use Rattle.vt_upper_overlay.proofs.overlay.UpperOverlay.shows_name_in.Goals as goal

pub returns-then-has_name : goal.returns-then-has_name
returns-then-has_name c =
    let trees = c.args.trees.now in
    let overlay = c.args.self.now in
    let count = c.args.inode.filesystem.count in
    let directory = c.args.directory in
    let small : c.args.directory < 18446744073709551616 =
    let h = c.index-slot.type_inv in let e = c.index-slot.ensures in omega (arith, h, e) in
    let same : inode_number count c.index-slot.result ≡ exchanged count directory =
    ap (inode_number count) c.index-slot.ensures ∙ sym (exchanged_slot count directory small) in
    let named : has_entry_to nat_eq (files_at trees count).tree (exchanged count directory) (inode_of c.args.inode) ≡ true =
    ap (λ d. has_entry_to nat_eq (files_at trees count).tree d (inode_of c.args.inode)) (sym same)
    ∙ sym c.has_name.ensures ∙ c.if-has_name.true in
    let shows = c.shows_directory.ensures
    ∙ ap (λ s. is_some (directory_path trees overlay
    (number_of (node_above overlay.nodes.births overlay.layers.number s))))
    (c.index-slot.ensures ∙ sym (exchanged_back count directory)) in
    shows ∙ (λ i. sym named i && is_some (directory_path trees overlay
    (number_of (node_above overlay.nodes.births overlay.layers.number (exchanged count (exchanged count directory))))))
