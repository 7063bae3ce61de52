use Rattle.vt_laws_trees.proofs.trees.ChangesKeepTrees
use Rattle.vt_laws_trees.proofs.trees.changes_keep_trees.Goals as goal

pub returns-clause-trees : goal.returns-clause-trees
returns-clause-trees c = ChangesKeepTrees.changes_keep_trees

pub returns-clause-numbers : goal.returns-clause-numbers
returns-clause-numbers c = ChangesKeepTrees.changes_keep_numbers

pub returns-clause-own_parents : goal.returns-clause-own_parents
returns-clause-own_parents c = ChangesKeepTrees.changes_keep_own_parents
