-- What a store ends as, where a `&mut` to its plain filesystems is returned.
use Rattle.std.specs.Borrow.{Fml, Lends, MutBor}
use Rattle.vt_fs.specs.FilesystemsValue.{Filesystems}
use Rattle.vt_fs.specs.contracts.filesystems.Filesystems.{the_row as filesystems_row}
use Rattle.vt_store.specs.StoreValue.{StoreValue}
use Rattle.vt_store.specs.contracts.store.Store.{the_row}

-- once the borrow ends, the store has the filesystems written through it, and its overlays as they were
abbrev pub lends_plain : MutBor StoreValue → MutBor Filesystems → Fml
lends_plain store r = Lends the_row filesystems_row store r (λ plain. record store.now { plain = plain })
