use Rattle.vt_laws_mounts.proofs.letting_go.leaving.FilesChanged.{file_changes_let_go, removed_directories_let_go, replacing_lets_go, taken_and_file_changes_let_go}
use Rattle.vt_laws_mounts.proofs.letting_go.leaving.NamesKept.{changes_keep_names}
use Rattle.vt_laws_mounts.proofs.letting_go.leaving.what_a_file_call_leaves_goes.Goals as goal

pub returns-clause-names : goal.returns-clause-names
returns-clause-names c = changes_keep_names

pub returns-clause-change : goal.returns-clause-change
returns-clause-change c = file_changes_let_go

pub returns-clause-with_mounts : goal.returns-clause-with_mounts
returns-clause-with_mounts c = taken_and_file_changes_let_go

pub returns-clause-rmdir : goal.returns-clause-rmdir
returns-clause-rmdir c = removed_directories_let_go

pub returns-clause-rename : goal.returns-clause-rename
returns-clause-rename c = replacing_lets_go
