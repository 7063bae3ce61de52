use Rattle.vt_laws_trees.proofs.layers.views.Fronts.{shown_by_prefixes, shown_by_views}
use Rattle.vt_laws_trees.proofs.layers.views.views_say_what_is_shown.Goals as goal

pub returns-clause-everywhere : goal.returns-clause-everywhere
returns-clause-everywhere c = shown_by_views

pub returns-clause-at_a_path : goal.returns-clause-at_a_path
returns-clause-at_a_path c = shown_by_prefixes
