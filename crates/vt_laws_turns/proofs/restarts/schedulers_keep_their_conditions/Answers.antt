use Rattle.vt_laws_turns.proofs.restarts.Keeping.{schedulers_begin, scripts_begin, turns_keep_schedulers}
use Rattle.vt_laws_turns.proofs.restarts.schedulers_keep_their_conditions.Goals as goal

pub returns-clause-begins : goal.returns-clause-begins
returns-clause-begins c = schedulers_begin

pub returns-clause-scripts : goal.returns-clause-scripts
returns-clause-scripts c = scripts_begin

pub returns-clause-kept : goal.returns-clause-kept
returns-clause-kept c = turns_keep_schedulers
