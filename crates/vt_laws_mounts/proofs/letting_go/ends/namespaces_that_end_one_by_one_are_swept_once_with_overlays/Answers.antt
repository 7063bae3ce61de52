use Rattle.vt_laws_mounts.proofs.letting_go.ends.EndsInTurn.{one_sweep_for_all_exits_with_overlays, one_sweep_for_ends_with_overlays, one_sweep_for_exits_with_overlays}
use Rattle.vt_laws_mounts.proofs.letting_go.ends.namespaces_that_end_one_by_one_are_swept_once_with_overlays.Goals as goal

pub returns-clause-several : goal.returns-clause-several
returns-clause-several c = one_sweep_for_ends_with_overlays

pub returns-clause-exit : goal.returns-clause-exit
returns-clause-exit c = one_sweep_for_exits_with_overlays

pub returns-clause-each : goal.returns-clause-each
returns-clause-each c = one_sweep_for_all_exits_with_overlays
