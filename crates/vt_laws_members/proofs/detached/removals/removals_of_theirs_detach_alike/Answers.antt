use Rattle.vt_laws_members.proofs.detached.removals.Removing.{removals_end_alike, replacements_end_alike}
use Rattle.vt_laws_members.proofs.detached.removals.removals_of_theirs_detach_alike.Goals as goal

pub returns-clause-rmdir : goal.returns-clause-rmdir
returns-clause-rmdir c = removals_end_alike

pub returns-clause-rename : goal.returns-clause-rename
returns-clause-rename c = replacements_end_alike
