use Rattle.vt_laws_turns.proofs.restarts.Counting.{at_most_three_restarts, calls_begin, calls_go_on, calls_restart, then_calls_are_run_whole}
use Rattle.vt_laws_turns.proofs.restarts.calls_restart_at_most_three_times.Goals as goal

pub returns-clause-begins : goal.returns-clause-begins
returns-clause-begins c = calls_begin

pub returns-clause-goes_on : goal.returns-clause-goes_on
returns-clause-goes_on c = calls_go_on

pub returns-clause-restarts : goal.returns-clause-restarts
returns-clause-restarts c = calls_restart

pub returns-clause-whole : goal.returns-clause-whole
returns-clause-whole c = then_calls_are_run_whole

pub returns-clause-at_most_three : goal.returns-clause-at_most_three
returns-clause-at_most_three c = at_most_three_restarts
