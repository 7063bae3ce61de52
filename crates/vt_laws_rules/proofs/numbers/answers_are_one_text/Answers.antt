use Rattle.vt_laws_rules.proofs.numbers.Texts.{any_two_texts_are_one, room_serves, supplies_do_not_matter, texts_are_told, worlds_keep_to_hand}
use Rattle.vt_laws_rules.proofs.numbers.answers_are_one_text.Goals as goal

pub returns-clause-one : goal.returns-clause-one
returns-clause-one c = any_two_texts_are_one

pub returns-clause-hand : goal.returns-clause-hand
returns-clause-hand c = worlds_keep_to_hand

pub returns-clause-serves : goal.returns-clause-serves
returns-clause-serves c = room_serves

pub returns-clause-allowed : goal.returns-clause-allowed
returns-clause-allowed c = texts_are_told

pub returns-clause-supplies : goal.returns-clause-supplies
returns-clause-supplies c = supplies_do_not_matter
