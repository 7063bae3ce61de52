use Rattle.vt_tasks.proofs.LocationLemmas.{closed_uses, directory_uses, entered_uses, exited_uses, forked_uses, moved_uses, opened_uses, replaced_uses, root_uses}
use Rattle.vt_tasks.proofs.PivotCounts.{pivoted_uses}
use Rattle.vt_tasks.proofs.laws.uses_of_locations_are_counted.Goals as goal

pub returns-clause-replaced : goal.returns-clause-replaced
returns-clause-replaced c = replaced_uses

pub returns-clause-directory : goal.returns-clause-directory
returns-clause-directory c = directory_uses

pub returns-clause-root : goal.returns-clause-root
returns-clause-root c = root_uses

pub returns-clause-entered : goal.returns-clause-entered
returns-clause-entered c = entered_uses

pub returns-clause-moved : goal.returns-clause-moved
returns-clause-moved c = moved_uses

pub returns-clause-opened : goal.returns-clause-opened
returns-clause-opened c = opened_uses

pub returns-clause-closed : goal.returns-clause-closed
returns-clause-closed c = closed_uses

pub returns-clause-forked : goal.returns-clause-forked
returns-clause-forked c = forked_uses

pub returns-clause-exited : goal.returns-clause-exited
returns-clause-exited c = exited_uses

pub returns-clause-pivoted : goal.returns-clause-pivoted
returns-clause-pivoted c = pivoted_uses
