use Rattle.vt_laws_trees.proofs.trees.ChangesOfSizes
use Rattle.vt_laws_trees.proofs.trees.changes_keep_sizes.Goals as goal

pub returns-clause-changes : goal.returns-clause-changes
returns-clause-changes c = ChangesOfSizes.changes_keep_sizes

pub returns-clause-settling : goal.returns-clause-settling
returns-clause-settling c = ChangesOfSizes.settling_keeps_sizes
