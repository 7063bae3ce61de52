use Rattle.vt_laws_containers.proofs.footholds.TasksPermits.{denials_give_no_foothold, looks_give_no_foothold}
use Rattle.vt_laws_containers.proofs.footholds.calls_of_theirs_give_others_no_foothold.Goals as goal

pub returns-clause-looks : goal.returns-clause-looks
returns-clause-looks c = looks_give_no_foothold

pub returns-clause-refused : goal.returns-clause-refused
returns-clause-refused c = denials_give_no_foothold
