use Rattle.vt_laws_trees.proofs.trees.ChangesWithinSizes
use Rattle.vt_laws_trees.proofs.trees.calls_keep_sizes.Goals as goal

pub returns-clause-opening : goal.returns-clause-opening
returns-clause-opening c = ChangesWithinSizes.opening_is_fit

pub returns-clause-calls : goal.returns-clause-calls
returns-clause-calls c = ChangesWithinSizes.calls_keep_sizes
