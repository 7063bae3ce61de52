use Rattle.vt_laws_members.proofs.changes.Common.{links_end_alike, mkdirs_end_alike, new_files_end_alike, symlinks_end_alike, whiteouts_end_alike}
use Rattle.vt_laws_members.proofs.changes.names.NewOpensEnding.{new_opens_end_alike}
use Rattle.vt_laws_members.proofs.changes.names.calls_of_theirs_that_make_names_end_alike.Goals as goal

pub returns-clause-mkdir : goal.returns-clause-mkdir
returns-clause-mkdir c = mkdirs_end_alike

pub returns-clause-symlink : goal.returns-clause-symlink
returns-clause-symlink c = symlinks_end_alike

pub returns-clause-whiteout : goal.returns-clause-whiteout
returns-clause-whiteout c = whiteouts_end_alike

pub returns-clause-write : goal.returns-clause-write
returns-clause-write c = new_files_end_alike

pub returns-clause-open : goal.returns-clause-open
returns-clause-open c = new_opens_end_alike

pub returns-clause-link : goal.returns-clause-link
returns-clause-link c = links_end_alike
