use Rattle.vt_laws_mounts.proofs.letting_go.leaving.LeftWithOverlays.{leaving_overlays_lets_go, staying_keeps_overlays}
use Rattle.vt_laws_mounts.proofs.letting_go.leaving.LeftOneByOne.{one_sweep_for_all_with_overlays, one_sweep_with_overlays}
use Rattle.vt_laws_mounts.proofs.letting_go.leaving.what_tasks_leave_goes_with_overlays.Goals as goal

pub returns-clause-left : goal.returns-clause-left
returns-clause-left c = leaving_overlays_lets_go

pub returns-clause-stayed : goal.returns-clause-stayed
returns-clause-stayed c = staying_keeps_overlays

pub returns-clause-several : goal.returns-clause-several
returns-clause-several c = one_sweep_with_overlays

pub returns-clause-each : goal.returns-clause-each
returns-clause-each c = one_sweep_for_all_with_overlays
