use Rattle.std.proofs.Common.{ap, find, is_some, nat_eq, sym, ◌∙◌}
use Rattle.vt_spec.proofs.Common.{Filesystem}
use Rattle.vt_ns.proofs.Common.{FilesystemEntry, Filesystems, WorldValue, counted, entry_of, layered_in, world_of}
use Rattle.vt_ns.proofs.world.FilesystemsThere.{filesystem_there, first_of_two, lent_there, mapped_there, second_of_two}
use Rattle.vt_ns.proofs.world.World.has_filesystem.Goals as goal

pub returns-then-is_some : goal.returns-then-is_some
returns-then-is_some c =
    let store = c.self.inside.store in
    let count = c.args.filesystem.count in
    let over = c.is_some.ensures ∙ sym (lent_there c.overlay.result) ∙ ap is_some c.overlay.ensures.value in
    over ∙ first_of_two (is_some (layered_in store count)) (is_some (entry_of store.plain count))
    (sym over ∙ c.if-is_some.true) ∙ sym (filesystem_there store count)
    ∙ ap (λ (value : WorldValue). is_some (find (λ (one : Filesystem _). nat_eq (counted count) one.number)
    (world_of value).filesystems)) c.self.view_is

pub returns-else-is_some : goal.returns-else-is_some
returns-else-is_some c =
    let store = c.self.inside.store in
    let count = c.args.filesystem.count in
    let over = c.is_some.ensures ∙ sym (lent_there c.overlay.result) ∙ ap is_some c.overlay.ensures.value in
    c.is_some-else-is_some.ensures ∙ sym (lent_there c.get.result) ∙ ap is_some c.get.ensures
    ∙ mapped_there (λ (entry : FilesystemEntry). entry.tree) (entry_of c.plain.result.now count)
    ∙ ap (λ (plain : Filesystems). is_some (entry_of plain count)) c.plain.ensures
    ∙ second_of_two (is_some (layered_in store count)) (is_some (entry_of store.plain count))
    (sym over ∙ c.if-is_some.false) ∙ sym (filesystem_there store count)
    ∙ ap (λ (value : WorldValue). is_some (find (λ (one : Filesystem _). nat_eq (counted count) one.number)
    (world_of value).filesystems)) c.self.view_is
