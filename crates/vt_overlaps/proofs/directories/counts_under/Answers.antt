use Rattle.std.proofs.Common.{subst, sym}
use Rattle.vt_fs.specs.FilesystemsValue.{Filesystems, files_at}
use Rattle.vt_fs.specs.Laws.{ParentsAreNamed}
use Rattle.vt_overlaps.proofs.directories.counts_under.Goals as goal

pub lies_in-requires : goal.lies_in-requires
lies_in-requires c =
    subst (λ (plain : Filesystems). ParentsAreNamed (files_at plain c.args.top.filesystem.count).tree)
    (sym c.plain.ensures) (c.requires.named c.args.top.filesystem.count)
