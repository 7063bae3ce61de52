use Rattle.vt_laws_mounts.proofs.letting_go.leaving.FilesChanged.{written_parts_keep_all}
use Rattle.vt_laws_mounts.proofs.letting_go.leaving.what_is_written_keeps_all.Goals as goal

pub returns : goal.returns
returns c = written_parts_keep_all
