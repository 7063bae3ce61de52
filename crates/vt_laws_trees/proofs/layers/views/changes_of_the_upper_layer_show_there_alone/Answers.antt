use Rattle.vt_laws_trees.proofs.layers.views.After.{link_is_shown, new_name_is_shown, shown_elsewhere_stays}
use Rattle.vt_laws_trees.proofs.layers.views.Lower.{moved_shows_below, removed_shows_below}
use Rattle.vt_laws_trees.proofs.layers.views.changes_of_the_upper_layer_show_there_alone.Goals as goal

pub returns-clause-elsewhere : goal.returns-clause-elsewhere
returns-clause-elsewhere c = shown_elsewhere_stays

pub returns-clause-made : goal.returns-clause-made
returns-clause-made c = new_name_is_shown

pub returns-clause-linked : goal.returns-clause-linked
returns-clause-linked c = link_is_shown

pub returns-clause-removed : goal.returns-clause-removed
returns-clause-removed c = removed_shows_below

pub returns-clause-left : goal.returns-clause-left
returns-clause-left c = moved_shows_below
