use Rattle.vt_laws_trees.proofs.calls.ways.WaysEnds.{destination_ways_are_searched, directory_ways_are_searched, object_ways_are_searched, source_ways_are_searched}
use Rattle.vt_laws_trees.proofs.calls.ways.WaysOne.{ways_are_one}
use Rattle.vt_laws_trees.proofs.calls.ways.WaysSearched.{each_last_word_is_looked_up_by_right, each_word_is_looked_up_by_right}
use Rattle.vt_laws_trees.proofs.calls.ways.each_directory_on_the_way_is_searched.Goals as goal

pub returns-clause-words : goal.returns-clause-words
returns-clause-words c = each_word_is_looked_up_by_right

pub returns-clause-last_words : goal.returns-clause-last_words
returns-clause-last_words c = each_last_word_is_looked_up_by_right

pub returns-clause-objects : goal.returns-clause-objects
returns-clause-objects c = object_ways_are_searched

pub returns-clause-directories : goal.returns-clause-directories
returns-clause-directories c = directory_ways_are_searched

pub returns-clause-sources : goal.returns-clause-sources
returns-clause-sources c = source_ways_are_searched

pub returns-clause-destinations : goal.returns-clause-destinations
returns-clause-destinations c = destination_ways_are_searched

pub returns-clause-one : goal.returns-clause-one
returns-clause-one c = ways_are_one
