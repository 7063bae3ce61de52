use Rattle.vt_laws_turns.proofs.same_states.PlaysAlike.{played_turns_are_whole_calls, plays_begin, plays_go_on}
use Rattle.vt_laws_turns.proofs.same_states.turns_made_one_by_one_are_a_schedule.Goals as goal

pub returns-clause-begin : goal.returns-clause-begin
returns-clause-begin c = plays_begin

pub returns-clause-go_on : goal.returns-clause-go_on
returns-clause-go_on c = plays_go_on

pub returns-clause-whole : goal.returns-clause-whole
returns-clause-whole c = played_turns_are_whole_calls
