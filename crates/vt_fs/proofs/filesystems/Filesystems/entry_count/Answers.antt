use Rattle.std.proofs.Common.{ap, length, option_copied, option_map, sym, ◌∙◌}
use Rattle.vt_spec.proofs.Common.{entries_in}
use Rattle.vt_fs.proofs.EntriesCounted.{entries_counted}
use Rattle.vt_fs.specs.FilesystemsValue.{node_seen}
use Rattle.vt_fs.proofs.filesystems.Filesystems.entry_count.Goals as goal

pub returns-in-Some : goal.returns-in-Some
returns-in-Some c =
    let f = c.args.directory.filesystem.count in
    c.entry_count.ensures ∙ sym (entries_counted f c.in-Some.node.now)
    ∙ ap (λ found. length (entries_in (option_map (node_seen f) (option_copied found)))) (sym c.in-Some.is)
    ∙ ap (λ node. length (entries_in node)) c.node.ensures

pub returns-in-None : goal.returns-in-None
returns-in-None c =
    let f = c.args.directory.filesystem.count in
    ap (λ found. length (entries_in (option_map (node_seen f) (option_copied found)))) (sym c.in-None.is)
    ∙ ap (λ node. length (entries_in node)) c.node.ensures
