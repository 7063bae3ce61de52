use Rattle.vt_laws_trees.proofs.overlays.merged.Numbers.{inodes_are_those, merged_trees_are_one, numbers_are_those, others_are_held, overlays_are_merged_trees}
use Rattle.vt_laws_trees.proofs.overlays.merged.a_merged_tree_is_a_function.Goals as goal

pub returns-clause-numbers : goal.returns-clause-numbers
returns-clause-numbers c = numbers_are_those

pub returns-clause-inodes : goal.returns-clause-inodes
returns-clause-inodes c = inodes_are_those

pub returns-clause-held : goal.returns-clause-held
returns-clause-held c = others_are_held

pub returns-clause-one : goal.returns-clause-one
returns-clause-one c = merged_trees_are_one

pub returns-clause-overlays : goal.returns-clause-overlays
returns-clause-overlays c = overlays_are_merged_trees
