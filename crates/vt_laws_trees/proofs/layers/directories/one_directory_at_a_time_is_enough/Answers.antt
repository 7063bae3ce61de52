use Rattle.vt_laws_trees.proofs.layers.directories.Tree.{objects_are_those_shown, one_directory_is_enough, overlays_are_merged_by_directory, real_objects_are_those_shown}
use Rattle.vt_laws_trees.proofs.layers.directories.one_directory_at_a_time_is_enough.Goals as goal

pub returns-clause-tree : goal.returns-clause-tree
returns-clause-tree c = one_directory_is_enough

pub returns-clause-objects : goal.returns-clause-objects
returns-clause-objects c = objects_are_those_shown

pub returns-clause-overlays : goal.returns-clause-overlays
returns-clause-overlays c = overlays_are_merged_by_directory

pub returns-clause-real : goal.returns-clause-real
returns-clause-real c = real_objects_are_those_shown
