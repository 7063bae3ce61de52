use Rattle.vt_laws_turns.proofs.frames.in_turn.MountsStoodOn.{other_tasks_stand_in_turn}
use Rattle.vt_laws_turns.proofs.frames.in_turn.NumbersRise.{keep_mounts_in_turn, tasks_stay_in_turn}
use Rattle.vt_laws_turns.proofs.frames.in_turn.unraised_namespaces_keep_their_mounts_in_turn.Goals as goal

pub returns-clause-mounts : goal.returns-clause-mounts
returns-clause-mounts c = keep_mounts_in_turn

pub returns-clause-tasks : goal.returns-clause-tasks
returns-clause-tasks c = tasks_stay_in_turn

pub returns-clause-stood : goal.returns-clause-stood
returns-clause-stood c = other_tasks_stand_in_turn
