use Rattle.vt_laws_members.proofs.changes.part.PartAgain.{part_of_the_part}
use Rattle.vt_laws_members.proofs.changes.Common.{part_is_settled}
use Rattle.vt_laws_members.proofs.changes.part.a_part_of_a_part_is_the_part.Goals as goal

pub returns-clause-again : goal.returns-clause-again
returns-clause-again c = part_of_the_part

pub returns-clause-settled : goal.returns-clause-settled
returns-clause-settled c = part_is_settled
