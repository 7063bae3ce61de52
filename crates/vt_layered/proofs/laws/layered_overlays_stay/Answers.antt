use Rattle.vt_layered.proofs.StayingKinds.{layered_stand_still, layered_stay}
use Rattle.vt_layered.proofs.laws.layered_overlays_stay.Goals as goal

pub returns-clause-shown : goal.returns-clause-shown
returns-clause-shown c = layered_stay

pub returns-clause-standing : goal.returns-clause-standing
returns-clause-standing c = layered_stand_still
