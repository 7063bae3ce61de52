use Rattle.vt_laws_worlds.proofs.merging.upper.BelowWhole.{below_ends, below_names, below_new, below_stays}
use Rattle.vt_laws_worlds.proofs.merging.upper.changes_leave_what_is_below.Goals as goal

pub returns-clause-stays : goal.returns-clause-stays
returns-clause-stays c = below_stays

pub returns-clause-names : goal.returns-clause-names
returns-clause-names c = below_names

pub returns-clause-ends : goal.returns-clause-ends
returns-clause-ends c = below_ends

pub returns-clause-new : goal.returns-clause-new
returns-clause-new c = below_new
