use Rattle.vt_laws_turns.proofs.same_states.TaskNumbers.{same_tasks_walk_alike, same_worlds_walk_alike}
use Rattle.vt_laws_turns.proofs.same_states.walks_look_at_no_change_number.Goals as goal

pub returns-clause-tasks : goal.returns-clause-tasks
returns-clause-tasks c = same_tasks_walk_alike

pub returns-clause-worlds : goal.returns-clause-worlds
returns-clause-worlds c = same_worlds_walk_alike
