use Rattle.vt_laws_containers.proofs.same_sets.outsiders.LeftSealed.{outsiders_lead_to_sealed_worlds, outsiders_leave_same_worlds_sealed}
use Rattle.vt_laws_containers.proofs.same_sets.outsiders.outsiders_leave_same_worlds_sealed.Goals as goal

pub returns-clause-call : goal.returns-clause-call
returns-clause-call c = outsiders_leave_same_worlds_sealed

pub returns-clause-in_turn : goal.returns-clause-in_turn
returns-clause-in_turn c = outsiders_lead_to_sealed_worlds
