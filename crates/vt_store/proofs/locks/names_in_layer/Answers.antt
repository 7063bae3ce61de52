use Rattle.std.proofs.Common.{ap, nat_eq, subst, sym, ◌&&◌, ◌∙◌}
use Rattle.vt_spec.proofs.Common.{and-false, and-true, has_entry_to, list_any}
use Rattle.vt_fs.specs.FilesystemsValue.{files_at}
use Rattle.vt_fs.specs.Laws.{ParentsAreNamed}
use Rattle.vt_location.specs.Locations.{inode_of}
use Rattle.vt_location.specs.declared.numbers.FilesystemId.{FilesystemId}
use Rattle.vt_store.proofs.locks.names_in_layer.Goals as goal
use Rattle.vt_store.specs.Locks.{directory_lies_in_overlay}

pub have_layer_over-requires : goal.have_layer_over-requires
have_layer_over-requires c =
    subst (λ (filesystem : FilesystemId). ParentsAreNamed (files_at c.args.plain.now filesystem.count).tree)
    (sym c.requires.one_filesystem) c.requires.named

pub returns-then-have_layer_over : goal.returns-then-have_layer_over
returns-then-have_layer_over c =
    let named = has_entry_to nat_eq (files_at c.args.plain.now c.args.file.filesystem.count).tree
    (inode_of c.args.directory) (inode_of c.args.file) in
    let lies = sym (ap (λ (id : FilesystemId). list_any (directory_lies_in_overlay c.args.plain.now id.count
    (inode_of c.args.directory)) c.args.overlays.now) c.requires.one_filesystem) ∙ sym c.have_layer_over.ensures
    ∙ c.if-have_layer_over.true in
    c.has_name.ensures ∙ sym (ap (λ b. named && b) lies ∙ and-true named)

pub returns-else-have_layer_over : goal.returns-else-have_layer_over
returns-else-have_layer_over c =
    let named = has_entry_to nat_eq (files_at c.args.plain.now c.args.file.filesystem.count).tree
    (inode_of c.args.directory) (inode_of c.args.file) in
    let lies = sym (ap (λ (id : FilesystemId). list_any (directory_lies_in_overlay c.args.plain.now id.count
    (inode_of c.args.directory)) c.args.overlays.now) c.requires.one_filesystem) ∙ sym c.have_layer_over.ensures
    ∙ c.if-have_layer_over.false in
    c.if-have_layer_over.false ∙ sym (ap (λ b. named && b) lies ∙ and-false named)
