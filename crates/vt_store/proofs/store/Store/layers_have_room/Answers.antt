use Rattle.std.proofs.Common.{ap, length, subst, true, ◌≡◌, ◌↔◌}
use Rattle.vt_fs.specs.FilesystemsValue.{Filesystems, shown}
use Rattle.vt_store.specs.LayersHeld.{HaveRoomFor}
use Rattle.vt_store.specs.StoreValue.{StoreValue}
use Rattle.vt_store.proofs.store.Store.layers_have_room.Goals as goal

pub returns : goal.returns
returns c = subst (λ (plain : Filesystems). (c.has_room_for.result ≡ true)
    ↔ HaveRoomFor (length c.args.lowers.now) (shown plain) c.args.lowers.now)
    (ap (λ (store : StoreValue). store.plain) c.self.view_is) c.has_room_for.ensures
