use Rattle.vt_laws_worlds.proofs.permits.taken.TakenGiven.{given_counts_go_on, given_permits_are_left, given_permits_keep_to_taken}
use Rattle.vt_laws_worlds.proofs.permits.taken.given_permits_keep_to_taken.Goals as goal

pub returns-clause-permits : goal.returns-clause-permits
returns-clause-permits c = given_permits_are_left

pub returns-clause-numbers : goal.returns-clause-numbers
returns-clause-numbers c = given_permits_keep_to_taken

pub returns-clause-counts : goal.returns-clause-counts
returns-clause-counts c = given_counts_go_on
