use Rattle.std.proofs.Common.{ap, arith, nat_eq, sym, true, ◌&&◌, ◌<◌, ◌≡◌, ◌∙◌}
use Rattle.vt_spec.proofs.Common.{has_entry_to, is_directory_under}
use Rattle.vt_location.proofs.NumberLemmas.{exchanged_slot}
use Rattle.vt_location.specs.Locations.{inode_of}
use Rattle.vt_location.specs.Numbers.{exchanged, inode_number}
use Rattle.vt_location.specs.declared.numbers.FilesystemId.{FilesystemId}
use Rattle.vt_fs.specs.FilesystemsValue.{files_at}
use Rattle.vt_overlaps.proofs.overlaps.names_under.Goals as goal

pub returns-then-has_name : goal.returns-then-has_name
returns-then-has_name c =
    let plain = c.args.plain.now in
    let count = c.args.top.filesystem.count in
    let directory = c.args.directory in
    let small : c.args.directory < 18446744073709551616 =
    let h = c.index-slot.type_inv in let e = c.index-slot.ensures in omega (arith, h, e) in
    let same : inode_number count c.index-slot.result ≡ exchanged count directory =
    ap (inode_number count) c.index-slot.ensures ∙ sym (exchanged_slot count directory small) in
    let named : has_entry_to nat_eq (files_at plain count).tree (exchanged count directory) (inode_of c.args.file) ≡ true =
    ap (λ d. has_entry_to nat_eq (files_at plain count).tree d (inode_of c.args.file)) (sym same)
    ∙ sym (ap (λ (id : FilesystemId). has_entry_to nat_eq (files_at plain id.count).tree
    (inode_number count c.index-slot.result) (inode_of c.args.file)) c.requires.one_filesystem)
    ∙ sym c.has_name.ensures ∙ c.if-has_name.true in
    c.is_directory_under.ensures
    ∙ ap (is_directory_under nat_eq (files_at plain count) (inode_of c.args.top)) same
    ∙ (λ i. sym named i && is_directory_under nat_eq (files_at plain count) (inode_of c.args.top) (exchanged count directory))
