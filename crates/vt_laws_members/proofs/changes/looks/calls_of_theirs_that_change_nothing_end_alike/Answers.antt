use Rattle.vt_laws_members.proofs.changes.Common.{denials_end_alike, looks_end_alike}
use Rattle.vt_laws_members.proofs.changes.looks.calls_of_theirs_that_change_nothing_end_alike.Goals as goal

pub returns-clause-looks : goal.returns-clause-looks
returns-clause-looks c = looks_end_alike

pub returns-clause-refused : goal.returns-clause-refused
returns-clause-refused c = denials_end_alike
