use Rattle.vt_laws_mounts.proofs.counts.using.Places.{new_tree_is_counted, opening_is_counted}
use Rattle.vt_laws_mounts.proofs.counts.using.a_new_tree_is_counted.Goals as goal

pub returns-clause-shown : goal.returns-clause-shown
returns-clause-shown c = new_tree_is_counted

pub returns-clause-opening : goal.returns-clause-opening
returns-clause-opening c = opening_is_counted
