use Rattle.vt_laws_trees.proofs.layers.locked.Paths.{lower_paths_are_locked, other_paths_stay}
use Rattle.vt_laws_trees.proofs.layers.locked.EveryCall.{calls_go_through_one, lower_layers_stay_locked, upper_objects_count}
use Rattle.vt_laws_trees.proofs.layers.locked.lower_layers_are_locked.Goals as goal

pub returns-clause-calls : goal.returns-clause-calls
returns-clause-calls c = lower_layers_stay_locked

pub returns-clause-others : goal.returns-clause-others
returns-clause-others c = calls_go_through_one

pub returns-clause-objects : goal.returns-clause-objects
returns-clause-objects c = upper_objects_count

pub returns-clause-paths : goal.returns-clause-paths
returns-clause-paths c = lower_paths_are_locked

pub returns-clause-other_paths : goal.returns-clause-other_paths
returns-clause-other_paths c = other_paths_stay
