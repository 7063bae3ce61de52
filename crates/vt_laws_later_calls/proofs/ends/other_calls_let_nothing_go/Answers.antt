use Rattle.vt_laws_later_calls.proofs.ends.WithoutOverlays.{other_calls_leave_all, types_leave_all_but_masters}
use Rattle.vt_laws_later_calls.proofs.ends.other_calls_let_nothing_go.Goals as goal

pub returns-clause-all : goal.returns-clause-all
returns-clause-all c = other_calls_leave_all

pub returns-clause-types : goal.returns-clause-types
returns-clause-types c = types_leave_all_but_masters
