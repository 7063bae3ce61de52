use Rattle.vt_laws_mounts.proofs.counts.using.Exchanged.{uses_are_exchanged}
use Rattle.vt_laws_mounts.proofs.counts.using.Sweeps.{uses_are_swept}
use Rattle.vt_laws_mounts.proofs.counts.using.uses_are_exchanged.Goals as goal

pub returns-clause-one_by_one : goal.returns-clause-one_by_one
returns-clause-one_by_one c = uses_are_exchanged

pub returns-clause-swept : goal.returns-clause-swept
returns-clause-swept c = uses_are_swept
