use Rattle.vt_laws_trees.proofs.layers.directories.Apart.{changed_stay_apart, lowers_stay_apart}
use Rattle.vt_laws_trees.proofs.layers.directories.Fit.{new_overlay_has_own_parents, new_overlay_is_fit, new_overlay_is_tree, new_overlay_lists_numbers}
use Rattle.vt_laws_trees.proofs.layers.directories.Still.{overlays_still_merge}
use Rattle.vt_laws_trees.proofs.layers.directories.a_new_overlay_meets_the_invariants.Goals as goal

pub returns-clause-tree : goal.returns-clause-tree
returns-clause-tree c = new_overlay_is_tree

pub returns-clause-own_parents : goal.returns-clause-own_parents
returns-clause-own_parents c = new_overlay_has_own_parents

pub returns-clause-numbers : goal.returns-clause-numbers
returns-clause-numbers c = new_overlay_lists_numbers

pub returns-clause-fit : goal.returns-clause-fit
returns-clause-fit c = new_overlay_is_fit

pub returns-clause-changed : goal.returns-clause-changed
returns-clause-changed c = changed_stay_apart

pub returns-clause-lowers : goal.returns-clause-lowers
returns-clause-lowers c = lowers_stay_apart

pub returns-clause-merge : goal.returns-clause-merge
returns-clause-merge c = overlays_still_merge
