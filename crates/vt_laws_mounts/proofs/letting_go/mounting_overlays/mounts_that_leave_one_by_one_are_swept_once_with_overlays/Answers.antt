use Rattle.vt_laws_mounts.proofs.letting_go.mounting.EventsInTurn.{one_sweep_for_all_events_with_overlays, one_sweep_for_events_with_overlays}
use Rattle.vt_laws_mounts.proofs.letting_go.mounting.TakenInTurn.{one_sweep_for_all_mounts_with_overlays, one_sweep_for_mounts_with_overlays}
use Rattle.vt_laws_mounts.proofs.letting_go.mounting_overlays.mounts_that_leave_one_by_one_are_swept_once_with_overlays.Goals as goal

pub returns-clause-several : goal.returns-clause-several
returns-clause-several c = one_sweep_for_mounts_with_overlays

pub returns-clause-each : goal.returns-clause-each
returns-clause-each c = one_sweep_for_all_mounts_with_overlays

pub returns-clause-event : goal.returns-clause-event
returns-clause-event c = one_sweep_for_events_with_overlays

pub returns-clause-events : goal.returns-clause-events
returns-clause-events c = one_sweep_for_all_events_with_overlays
