use Rattle.vt_fs.proofs.Numbers.{found_by_number}
use Rattle.vt_fs.proofs.laws.filesystems_are_found.Goals as goal

pub returns : goal.returns
returns c = found_by_number
