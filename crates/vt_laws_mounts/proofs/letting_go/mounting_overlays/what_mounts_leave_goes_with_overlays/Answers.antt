use Rattle.vt_laws_mounts.proofs.letting_go.mounting_overlays.MountingWithOverlays.{ending_with_overlays_lets_go, moving_with_overlays_lets_go, taking_away_with_overlays_lets_go}
use Rattle.vt_laws_mounts.proofs.letting_go.mounting_overlays.what_mounts_leave_goes_with_overlays.Goals as goal

pub returns-clause-taken_away : goal.returns-clause-taken_away
returns-clause-taken_away c = taking_away_with_overlays_lets_go

pub returns-clause-ended : goal.returns-clause-ended
returns-clause-ended c = ending_with_overlays_lets_go

pub returns-clause-moved : goal.returns-clause-moved
returns-clause-moved c = moving_with_overlays_lets_go
