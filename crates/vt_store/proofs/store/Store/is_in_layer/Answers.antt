use Rattle.std.proofs.Common.{ap, subst, sym, ◌||◌, ◌∙◌}
use Rattle.vt_spec.proofs.Common.{list_any}
use Rattle.vt_location.specs.Locations.{inode_of}
use Rattle.vt_fs.specs.FilesystemsValue.{files_at}
use Rattle.vt_fs.specs.Laws.{ParentsAreNamed}
use Rattle.vt_store.proofs.store.Store.is_in_layer.Goals as goal
use Rattle.vt_store.specs.Locks.{keeps_in, lies_in_overlay}
use Rattle.vt_store.specs.StoreValue.{StoreValue}

pub lies_in_any-requires : goal.lies_in_any-requires
lies_in_any-requires c =
    subst (λ (store : StoreValue). ParentsAreNamed (files_at store.plain c.args.inode.filesystem.count).tree)
    (sym c.self.view_is) c.requires

pub returns-then-lies_in_any : goal.returns-then-lies_in_any
returns-then-lies_in_any c =
    let count = c.args.inode.filesystem.count in
    let number = inode_of c.args.inode in
    let kept = list_any (keeps_in count number) c.args.self.now.overlays in
    let lies = sym (ap (λ (store : StoreValue). list_any (lies_in_overlay store.plain count number) store.overlays)
    c.self.view_is) ∙ sym c.lies_in_any.ensures ∙ c.if-lies_in_any.true in
    c.if-lies_in_any.true ∙ sym (ap (λ b. b || kept) lies)

pub returns-else-lies_in_any : goal.returns-else-lies_in_any
returns-else-lies_in_any c =
    let count = c.args.inode.filesystem.count in
    let number = inode_of c.args.inode in
    let kept = list_any (keeps_in count number) c.args.self.now.overlays in
    let lies = sym (ap (λ (store : StoreValue). list_any (lies_in_overlay store.plain count number) store.overlays)
    c.self.view_is) ∙ sym c.lies_in_any.ensures ∙ c.if-lies_in_any.false in
    c.keep_object.ensures ∙ ap (λ (store : StoreValue). list_any (keeps_in count number) store.overlays) c.self.view_is
    ∙ sym (ap (λ b. b || kept) lies)
