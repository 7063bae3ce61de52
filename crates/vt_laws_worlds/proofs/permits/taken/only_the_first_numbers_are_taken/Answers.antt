use Rattle.vt_laws_worlds.proofs.permits.taken.TakenHanded.{handed_counts_go_on}
use Rattle.vt_laws_worlds.proofs.permits.taken.TakenFirst.{only_the_first_are_taken}
use Rattle.vt_laws_worlds.proofs.permits.taken.TakenNumbers.{counts_go_on, permits_keep_to_taken}
use Rattle.vt_laws_worlds.proofs.permits.taken.only_the_first_numbers_are_taken.Goals as goal

pub returns-clause-first : goal.returns-clause-first
returns-clause-first c = only_the_first_are_taken

pub returns-clause-numbers : goal.returns-clause-numbers
returns-clause-numbers c = permits_keep_to_taken

pub returns-clause-counts : goal.returns-clause-counts
returns-clause-counts c = counts_go_on

pub returns-clause-handed : goal.returns-clause-handed
returns-clause-handed c = handed_counts_go_on
