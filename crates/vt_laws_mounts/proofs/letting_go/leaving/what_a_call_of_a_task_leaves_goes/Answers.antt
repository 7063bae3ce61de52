use Rattle.vt_laws_mounts.proofs.letting_go.leaving.TaskCalls.{changed_directories_let_go, changed_roots_let_go, closes_let_go}
use Rattle.vt_laws_mounts.proofs.letting_go.leaving.what_a_call_of_a_task_leaves_goes.Goals as goal

pub returns-clause-close : goal.returns-clause-close
returns-clause-close c = closes_let_go

pub returns-clause-chdir : goal.returns-clause-chdir
returns-clause-chdir c = changed_directories_let_go

pub returns-clause-chroot : goal.returns-clause-chroot
returns-clause-chroot c = changed_roots_let_go
