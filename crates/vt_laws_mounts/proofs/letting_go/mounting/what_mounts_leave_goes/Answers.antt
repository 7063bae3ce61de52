use Rattle.vt_laws_mounts.proofs.letting_go.mounting.MountingTaken.{ending_lets_go, taking_away_lets_go}
use Rattle.vt_laws_mounts.proofs.letting_go.mounting.MountingMoved.{moving_lets_go}
use Rattle.vt_laws_mounts.proofs.letting_go.mounting.what_mounts_leave_goes.Goals as goal

pub returns-clause-taken_away : goal.returns-clause-taken_away
returns-clause-taken_away c = taking_away_lets_go

pub returns-clause-ended : goal.returns-clause-ended
returns-clause-ended c = ending_lets_go

pub returns-clause-moved : goal.returns-clause-moved
returns-clause-moved c = moving_lets_go
