use Rattle.vt_laws_later_calls.proofs.ends.WithoutOverlays.{only_these_end_inodes}
use Rattle.vt_laws_later_calls.proofs.ends.only_these_calls_end_inodes.Goals as goal

pub returns : goal.returns
returns c = only_these_end_inodes
