use Rattle.vt_laws_members.proofs.overlay_names.each_call.Permitted.{each_chmod_ends_alike, each_chown_ends_alike, each_link_ends_alike, each_mkdir_ends_alike, each_open_ends_alike, each_part_write_ends_alike, each_symlink_ends_alike, each_unlink_ends_alike, each_write_ends_alike}
use Rattle.vt_laws_members.proofs.overlay_names.each_call.each_call_of_theirs_on_files_ends_alike.Goals as goal

pub returns-clause-write : goal.returns-clause-write
returns-clause-write c = each_write_ends_alike

pub returns-clause-mkdir : goal.returns-clause-mkdir
returns-clause-mkdir c = each_mkdir_ends_alike

pub returns-clause-symlink : goal.returns-clause-symlink
returns-clause-symlink c = each_symlink_ends_alike

pub returns-clause-link : goal.returns-clause-link
returns-clause-link c = each_link_ends_alike

pub returns-clause-unlink : goal.returns-clause-unlink
returns-clause-unlink c = each_unlink_ends_alike

pub returns-clause-chmod : goal.returns-clause-chmod
returns-clause-chmod c = each_chmod_ends_alike

pub returns-clause-chown : goal.returns-clause-chown
returns-clause-chown c = each_chown_ends_alike

pub returns-clause-open : goal.returns-clause-open
returns-clause-open c = each_open_ends_alike

pub returns-clause-pwrite : goal.returns-clause-pwrite
returns-clause-pwrite c = each_part_write_ends_alike
