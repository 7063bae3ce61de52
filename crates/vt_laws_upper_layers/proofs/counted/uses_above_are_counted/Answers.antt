use Rattle.vt_laws_upper_layers.proofs.counted.Uses.{exchanges_are_lowered, uses_above_are_swept}
use Rattle.vt_laws_upper_layers.proofs.counted.uses_above_are_counted.Goals as goal

pub returns-clause-exchanged : goal.returns-clause-exchanged
returns-clause-exchanged c = exchanges_are_lowered

pub returns-clause-swept : goal.returns-clause-swept
returns-clause-swept c = uses_above_are_swept
