use Rattle.vt_laws_later_calls.proofs.ends.EndedBy.{only_these_end_other_inodes}
use Rattle.vt_laws_later_calls.proofs.ends.only_these_calls_end_inodes_that_are_no_whiteouts.Goals as goal

pub returns : goal.returns
returns c = only_these_end_other_inodes
