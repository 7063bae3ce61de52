use Rattle.vt_laws_turns.proofs.frames.frames.PivotsRaise.{other_tasks_of_unraised_namespaces_stay}
use Rattle.vt_laws_turns.proofs.frames.frames.Unraised.{unraised_namespaces_keep_mounts}
use Rattle.vt_laws_turns.proofs.frames.frames.unraised_namespaces_keep_their_mounts.Goals as goal

pub returns-clause-mounts : goal.returns-clause-mounts
returns-clause-mounts c = unraised_namespaces_keep_mounts

pub returns-clause-tasks : goal.returns-clause-tasks
returns-clause-tasks c = other_tasks_of_unraised_namespaces_stay
