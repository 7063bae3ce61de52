use Rattle.vt_laws_trees.proofs.layers.directories.Under.{directories_are_merged, layers_are_views, merged_are_views, placed_show_the_same, places_are_counted_back, shown_under_name}
use Rattle.vt_laws_trees.proofs.layers.directories.layers_merge_one_directory_at_a_time.Goals as goal

pub returns-clause-under : goal.returns-clause-under
returns-clause-under c = shown_under_name

pub returns-clause-views : goal.returns-clause-views
returns-clause-views c = merged_are_views

pub returns-clause-placed : goal.returns-clause-placed
returns-clause-placed c = placed_show_the_same

pub returns-clause-counted : goal.returns-clause-counted
returns-clause-counted c = places_are_counted_back

pub returns-clause-layers : goal.returns-clause-layers
returns-clause-layers c = layers_are_views

pub returns-clause-directories : goal.returns-clause-directories
returns-clause-directories c = directories_are_merged
