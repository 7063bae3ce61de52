use Rattle.vt_laws_mounts.proofs.letting_go.mounting.EventsInTurn.{going_is_not_swept, one_sweep_for_all_events, one_sweep_for_events}
use Rattle.vt_laws_mounts.proofs.letting_go.mounting.events_of_unmounts_are_swept_once.Goals as goal

pub returns-clause-going : goal.returns-clause-going
returns-clause-going c = going_is_not_swept

pub returns-clause-several : goal.returns-clause-several
returns-clause-several c = one_sweep_for_events

pub returns-clause-each : goal.returns-clause-each
returns-clause-each c = one_sweep_for_all_events
