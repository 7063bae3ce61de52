use Rattle.vt_laws_rules.proofs.numbers.NamedWorlds.{named_is_kept}
use Rattle.vt_laws_rules.proofs.numbers.Supports.{calls_keep_to_numbers, lines_keep_to_numbers, opening_keeps_to_four, used_numbers_are_named}
use Rattle.vt_laws_rules.proofs.numbers.calls_make_no_other_number.Goals as goal

pub returns-clause-opening : goal.returns-clause-opening
returns-clause-opening c = opening_keeps_to_four

pub returns-clause-calls : goal.returns-clause-calls
returns-clause-calls c = calls_keep_to_numbers

pub returns-clause-lines : goal.returns-clause-lines
returns-clause-lines c = lines_keep_to_numbers

pub returns-clause-used : goal.returns-clause-used
returns-clause-used c = used_numbers_are_named

pub returns-clause-made : goal.returns-clause-made
returns-clause-made c named fresh world name call keeps supplied out =
    used_numbers_are_named named _ (calls_keep_to_numbers named fresh world name call keeps supplied) out

pub returns-clause-named : goal.returns-clause-named
returns-clause-named c = named_is_kept
