use Rattle.vt_laws_members.proofs.changes.Common.{chmods_end_alike, chowns_end_alike, opaques_end_alike, writes_end_alike}
use Rattle.vt_laws_members.proofs.changes.files.PartWritten.{part_writes_end_alike}
use Rattle.vt_laws_members.proofs.changes.files.calls_of_theirs_that_edit_files_end_alike.Goals as goal

pub returns-clause-write : goal.returns-clause-write
returns-clause-write c = writes_end_alike

pub returns-clause-chmod : goal.returns-clause-chmod
returns-clause-chmod c = chmods_end_alike

pub returns-clause-chown : goal.returns-clause-chown
returns-clause-chown c = chowns_end_alike

pub returns-clause-opaque : goal.returns-clause-opaque
returns-clause-opaque c = opaques_end_alike

pub returns-clause-pwrite : goal.returns-clause-pwrite
returns-clause-pwrite c = part_writes_end_alike
