use Rattle.vt_laws_trees.proofs.layers.views.Moves.{moved_leads_on, new_leads_as_old, old_leads_nowhere, through_is_split}
use Rattle.vt_laws_trees.proofs.layers.views.moves_take_all_along.Goals as goal

pub returns-clause-on : goal.returns-clause-on
returns-clause-on c = moved_leads_on

pub returns-clause-as_old : goal.returns-clause-as_old
returns-clause-as_old c = new_leads_as_old

pub returns-clause-others : goal.returns-clause-others
returns-clause-others c = old_leads_nowhere

pub returns-clause-split : goal.returns-clause-split
returns-clause-split c = through_is_split
