use Rattle.std.proofs.Common.{ap, sym, ◌∙◌, option_map, Option, unwrap_or, option_copied}
use Rattle.vt_fs.specs.FilesystemsValue.{FilesystemEntry, entry_at, no_entry}
use Rattle.vt_fs.proofs.Entries.{entry_of-held, of_count}
use Rattle.vt_fs.proofs.filesystems.Filesystems.mounts.Goals as goal

pub returns-in-Some : goal.returns-in-Some
returns-in-Some c = sym (
    ap (λ fs. (entry_at fs c.args.filesystem.count).mounts) (sym c.self.view_is)
    ∙ ap (λ (o : Option FilesystemEntry). (unwrap_or o (no_entry c.args.filesystem.count)).mounts)
    (entry_of-held c.args.filesystem.count c.self.inside.by_number.entries
    ∙ ap (option_map (of_count c.args.filesystem.count)) (sym c.get.ensures.value ∙ ap option_copied c.in-Some.is))
    )

pub returns-in-None : goal.returns-in-None
returns-in-None c = sym (
    ap (λ fs. (entry_at fs c.args.filesystem.count).mounts) (sym c.self.view_is)
    ∙ ap (λ (o : Option FilesystemEntry). (unwrap_or o (no_entry c.args.filesystem.count)).mounts)
    (entry_of-held c.args.filesystem.count c.self.inside.by_number.entries
    ∙ ap (option_map (of_count c.args.filesystem.count)) (sym c.get.ensures.value ∙ ap option_copied c.in-None.is))
    )
