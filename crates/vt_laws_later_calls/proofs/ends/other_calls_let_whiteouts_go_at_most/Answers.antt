use Rattle.vt_laws_later_calls.proofs.ends.EndedBy.{only_whiteouts_are_taken, other_calls_keep_all, plain_changes_keep_all}
use Rattle.vt_laws_later_calls.proofs.ends.OtherCalls.{all_types_leave_all_but_masters, other_calls_let_whiteouts_go}
use Rattle.vt_laws_later_calls.proofs.ends.Replaced.{replaced_are_whiteouts}
use Rattle.vt_laws_later_calls.proofs.ends.other_calls_let_whiteouts_go_at_most.Goals as goal

pub returns-clause-all : goal.returns-clause-all
returns-clause-all c = other_calls_let_whiteouts_go

pub returns-clause-whiteouts : goal.returns-clause-whiteouts
returns-clause-whiteouts c = replaced_are_whiteouts

pub returns-clause-taken : goal.returns-clause-taken
returns-clause-taken c = only_whiteouts_are_taken

pub returns-clause-kept : goal.returns-clause-kept
returns-clause-kept c = other_calls_keep_all

pub returns-clause-plain : goal.returns-clause-plain
returns-clause-plain c = plain_changes_keep_all

pub returns-clause-types : goal.returns-clause-types
returns-clause-types c = all_types_leave_all_but_masters
