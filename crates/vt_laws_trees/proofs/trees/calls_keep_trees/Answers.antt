use Rattle.vt_laws_trees.proofs.trees.ChangesByCalls
use Rattle.vt_laws_trees.proofs.trees.TreesOfMounts
use Rattle.vt_laws_trees.proofs.trees.calls_keep_trees.Goals as goal

pub returns-clause-opening : goal.returns-clause-opening
returns-clause-opening c = ChangesByCalls.opening_has_trees

pub returns-clause-calls : goal.returns-clause-calls
returns-clause-calls c = ChangesByCalls.calls_keep_trees

pub returns-clause-standing : goal.returns-clause-standing
returns-clause-standing c = TreesOfMounts.worlds_are_standing
