mod SettlingStays
use Rattle.vt_laws_trees.proofs.trees.settling_keeps_trees.Answers.SettlingStays
use Rattle.vt_laws_trees.proofs.trees.TreesForgotten
use Rattle.vt_laws_trees.proofs.trees.settling_keeps_trees.Goals as goal

pub returns-clause-trees : goal.returns-clause-trees
returns-clause-trees c = TreesForgotten.kept_file_tree

pub returns-clause-worlds : goal.returns-clause-worlds
returns-clause-worlds c = TreesForgotten.settling_keeps_trees

pub returns-clause-named : goal.returns-clause-named
returns-clause-named c = TreesForgotten.named_is_used

pub returns-clause-used : goal.returns-clause-used
returns-clause-used c = TreesForgotten.used_stays

pub returns-clause-unused : goal.returns-clause-unused
returns-clause-unused c = TreesForgotten.unused_is_gone

pub returns-clause-names : goal.returns-clause-names
returns-clause-names c = SettlingStays.named_stays

pub returns-clause-locations : goal.returns-clause-locations
returns-clause-locations c = SettlingStays.located_stays
