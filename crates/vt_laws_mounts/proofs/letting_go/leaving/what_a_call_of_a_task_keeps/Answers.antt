use Rattle.vt_laws_mounts.proofs.letting_go.leaving.TaskCalls.{forks_keep_all, new_credentials_keep_all, new_umasks_keep_all, opened_files_keep_all}
use Rattle.vt_laws_mounts.proofs.letting_go.leaving.what_a_call_of_a_task_keeps.Goals as goal

pub returns-clause-fork : goal.returns-clause-fork
returns-clause-fork c = forks_keep_all

pub returns-clause-umask : goal.returns-clause-umask
returns-clause-umask c = new_umasks_keep_all

pub returns-clause-credentials : goal.returns-clause-credentials
returns-clause-credentials c = new_credentials_keep_all

pub returns-clause-open : goal.returns-clause-open
returns-clause-open c = opened_files_keep_all
