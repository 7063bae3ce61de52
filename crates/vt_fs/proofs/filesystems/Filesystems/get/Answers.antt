use Rattle.std.proofs.Common.{ap, sym, ◌∙◌, option_map, option_copied}
use Rattle.vt_fs.specs.FilesystemsValue.{entry_of}
use Rattle.vt_fs.proofs.Entries.{tree_of-held}
use Rattle.vt_fs.proofs.filesystems.Filesystems.get.Goals as goal

pub returns : goal.returns
returns c = tree_of-held c.args.filesystem.count c.self.inside.by_number.entries _
    (sym (ap option_copied c.in_ok-found.was) ∙ c.found_under.ensures)
    ∙ ap (λ fs. option_map (λ entry. entry.tree) (entry_of fs c.args.filesystem.count)) c.self.view_is

pub returns-in_err-found : goal.returns-in_err-found
returns-in_err-found c = ap option_copied c.from_residual.ensures
    ∙ tree_of-held c.args.filesystem.count c.self.inside.by_number.entries _
    (sym (ap option_copied c.in_err-found.was) ∙ c.found_under.ensures)
    ∙ ap (λ fs. option_map (λ entry. entry.tree) (entry_of fs c.args.filesystem.count)) c.self.view_is
