use Rattle.vt_laws_mounts.proofs.mounts.MountsLeft.{file_calls_leave_mounts}
use Rattle.vt_laws_mounts.proofs.mounts.calls_on_files_are_of_no_mount.Goals as goal

pub returns : goal.returns
returns c = file_calls_leave_mounts
