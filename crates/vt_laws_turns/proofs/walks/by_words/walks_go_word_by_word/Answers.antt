use Rattle.vt_laws_turns.proofs.walks.by_words.Routed.{routes_are_walks}
use Rattle.vt_laws_turns.proofs.walks.by_words.Whole.{all_words_are_the_walk, first_words_are_of_the_walk}
use Rattle.vt_laws_turns.proofs.walks.by_words.walks_go_word_by_word.Goals as goal

pub returns-clause-first_words : goal.returns-clause-first_words
returns-clause-first_words c = first_words_are_of_the_walk

pub returns-clause-all_words : goal.returns-clause-all_words
returns-clause-all_words c = all_words_are_the_walk

pub returns-clause-routes : goal.returns-clause-routes
returns-clause-routes c = routes_are_walks
