use Rattle.vt_laws_sealed.proofs.outsiders.EveryPermit.{outsiders_leave_a_sealed_set}
use Rattle.vt_laws_sealed.proofs.outsiders.InTurn.{outsiders_leave_it_sealed_in_turn}
use Rattle.vt_laws_sealed.proofs.outsiders.outsiders_leave_a_sealed_set.Goals as goal

pub returns-clause-call : goal.returns-clause-call
returns-clause-call c = outsiders_leave_a_sealed_set

pub returns-clause-in_turn : goal.returns-clause-in_turn
returns-clause-in_turn c = outsiders_leave_it_sealed_in_turn
