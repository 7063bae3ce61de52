use Rattle.vt_laws_mounts.proofs.letting_go.mounting.TakenInTurn.{one_sweep_for_all_mounts, one_sweep_for_mounts}
use Rattle.vt_laws_mounts.proofs.letting_go.mounting.mounts_that_leave_one_by_one_are_swept_once.Goals as goal

pub returns-clause-several : goal.returns-clause-several
returns-clause-several c = one_sweep_for_mounts

pub returns-clause-each : goal.returns-clause-each
returns-clause-each c = one_sweep_for_all_mounts
