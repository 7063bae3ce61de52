use Rattle.vt_laws_trees.proofs.calls.ways.WaysFiles.{file_ways_are_searched}
use Rattle.vt_laws_trees.proofs.calls.ways.WaysNamed.{new_leaf_ways_are_searched, new_name_ways_are_searched, old_leaf_ways_are_searched, old_name_ways_are_searched, place_ways_are_searched, renamed_ways_are_searched, symlink_ways_are_searched}
use Rattle.vt_laws_trees.proofs.calls.ways.each_directory_on_the_way_to_a_name_is_searched.Goals as goal

pub returns-clause-symlinks : goal.returns-clause-symlinks
returns-clause-symlinks c = symlink_ways_are_searched

pub returns-clause-places : goal.returns-clause-places
returns-clause-places c = place_ways_are_searched

pub returns-clause-new_names : goal.returns-clause-new_names
returns-clause-new_names c = new_name_ways_are_searched

pub returns-clause-new_leaves : goal.returns-clause-new_leaves
returns-clause-new_leaves c = new_leaf_ways_are_searched

pub returns-clause-old_names : goal.returns-clause-old_names
returns-clause-old_names c = old_name_ways_are_searched

pub returns-clause-old_leaves : goal.returns-clause-old_leaves
returns-clause-old_leaves c = old_leaf_ways_are_searched

pub returns-clause-renamed : goal.returns-clause-renamed
returns-clause-renamed c = renamed_ways_are_searched

pub returns-clause-files : goal.returns-clause-files
returns-clause-files c = file_ways_are_searched
