use Rattle.vt_laws_worlds.proofs.permits.named.PermitsKeepTo.{permits_keep_to_numbers, same_keeps_to_numbers_too}
use Rattle.vt_laws_worlds.proofs.permits.named.permits_keep_to_numbers.Goals as goal

pub returns-clause-numbers : goal.returns-clause-numbers
returns-clause-numbers c = permits_keep_to_numbers

pub returns-clause-same : goal.returns-clause-same
returns-clause-same c = same_keeps_to_numbers_too
