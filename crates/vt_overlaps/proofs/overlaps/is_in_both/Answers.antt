use Rattle.std.proofs.Common.{ap, is_some, nat_eq, not, option_copied, subst, sym, true, ◌&&◌, ◌∙◌, ◌≡◌}
use Rattle.vt_spec.proofs.Common.{is_under}
use Rattle.vt_fs.specs.FilesystemsValue.{Filesystems, files_at}
use Rattle.vt_fs.specs.Laws.{ParentsAreNamed}
use Rattle.vt_location.specs.Locations.{inode_of}
use Rattle.vt_location.specs.Numbers.{inode_number}
use Rattle.vt_store.specs.Locks.{is_in_layer}
use Rattle.vt_overlaps.proofs.Overlapping.{is_some-map}
use Rattle.vt_overlaps.proofs.overlaps.is_in_both.Goals as goal

pub lies_under-requires : goal.lies_under-requires
lies_under-requires c =
    subst (λ (plain : Filesystems). ParentsAreNamed (files_at plain c.args.top.filesystem.count).tree)
    (sym c.plain-then-is_in_layer.ensures) c.requires

pub returns-then-is_in_layer : goal.returns-then-is_in_layer
returns-then-is_in_layer c =
    let store = c.args.store.now in
    let count = c.args.top.filesystem.count in
    let number = inode_number count c.args.slot in
    let there : is_some ((files_at store.plain count).tree.node number) ≡ true =
    ap is_some (sym (λ i. (files_at (c.plain.ensures i) (c.node_ref.ensures.value i).filesystem.count).tree.node
    (c.node_ref.ensures.number i))) ∙ ap is_some (sym c.node.ensures) ∙ is_some-map _ (option_copied c.node.result)
    ∙ is_some-map _ c.node.result ∙ c.is_none.ensures ∙ ap not c.if-is_none.false in
    let layer : is_in_layer store count number ≡ true = sym c.is_in_layer.ensures ∙ c.if-is_in_layer.true in
    c.lies_under.ensures
    ∙ ap (λ (plain : Filesystems). is_under nat_eq (files_at plain count) (inode_of c.args.top) number)
    c.plain-then-is_in_layer.ensures
    ∙ (λ i. sym there i && (sym layer i && is_under nat_eq (files_at store.plain count) (inode_of c.args.top) number))
