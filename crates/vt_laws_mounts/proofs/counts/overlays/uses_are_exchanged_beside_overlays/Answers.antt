use Rattle.vt_laws_mounts.proofs.counts.overlays.FilesystemUses.{no_upper_is_in_any}
use Rattle.vt_laws_mounts.proofs.counts.using.Exchanged.{uses_are_exchanged_beside_overlays}
use Rattle.vt_laws_mounts.proofs.counts.using.Sweeps.{uses_are_swept_beside_overlays}
use Rattle.vt_laws_mounts.proofs.counts.overlays.uses_are_exchanged_beside_overlays.Goals as goal

pub returns-clause-one_by_one : goal.returns-clause-one_by_one
returns-clause-one_by_one c = uses_are_exchanged_beside_overlays

pub returns-clause-swept : goal.returns-clause-swept
returns-clause-swept c = uses_are_swept_beside_overlays

pub returns-clause-none : goal.returns-clause-none
returns-clause-none c = no_upper_is_in_any
