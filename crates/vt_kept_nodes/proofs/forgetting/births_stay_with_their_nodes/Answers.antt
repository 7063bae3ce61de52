use Rattle.vt_kept_nodes.proofs.forgetting.Forgotten.{births_stay_one_to_one, kept_stay_own}
use Rattle.vt_kept_nodes.proofs.forgetting.births_stay_with_their_nodes.Goals as goal

pub returns-clause-births : goal.returns-clause-births
returns-clause-births c = births_stay_one_to_one

pub returns-clause-own : goal.returns-clause-own
returns-clause-own c = kept_stay_own
