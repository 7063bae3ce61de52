use Rattle.vt_laws_mounts.proofs.letting_go.leaving.LeftOneByOne.{one_sweep_for_all, one_sweep_for_several}
use Rattle.vt_laws_mounts.proofs.letting_go.leaving.PlacesLeft.{leaving_lets_go, staying_keeps_all}
use Rattle.vt_laws_mounts.proofs.letting_go.leaving.what_tasks_leave_goes.Goals as goal

pub returns-clause-left : goal.returns-clause-left
returns-clause-left c = leaving_lets_go

pub returns-clause-stayed : goal.returns-clause-stayed
returns-clause-stayed c = staying_keeps_all

pub returns-clause-several : goal.returns-clause-several
returns-clause-several c = one_sweep_for_several

pub returns-clause-each : goal.returns-clause-each
returns-clause-each c = one_sweep_for_all
