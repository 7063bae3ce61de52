use Rattle.vt_laws_turns.proofs.holds.Holding.{schedulers_begin_so, schedules_hold_what_is_seen, turns_hold_what_is_seen}
use Rattle.vt_laws_turns.proofs.holds.Meeting.{words_meet_what_is_seen}
use Rattle.vt_laws_turns.proofs.holds.Scripts.{schedules_of_scripts_hold_what_is_seen}
use Rattle.vt_laws_turns.proofs.holds.filesystems_held_are_seen.Goals as goal

pub returns-clause-words : goal.returns-clause-words
returns-clause-words c = words_meet_what_is_seen

pub returns-clause-begins : goal.returns-clause-begins
returns-clause-begins c = schedulers_begin_so

pub returns-clause-turns : goal.returns-clause-turns
returns-clause-turns c = turns_hold_what_is_seen

pub returns-clause-schedules : goal.returns-clause-schedules
returns-clause-schedules c = schedules_hold_what_is_seen

pub returns-clause-scripts : goal.returns-clause-scripts
returns-clause-scripts c = schedules_of_scripts_hold_what_is_seen
