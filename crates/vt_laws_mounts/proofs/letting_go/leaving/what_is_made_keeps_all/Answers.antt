use Rattle.vt_laws_mounts.proofs.letting_go.leaving.FilesChanged.{made_keeps_all, opened_new_keeps_all}
use Rattle.vt_laws_mounts.proofs.letting_go.leaving.what_is_made_keeps_all.Goals as goal

pub returns-clause-make : goal.returns-clause-make
returns-clause-make c = made_keeps_all

pub returns-clause-open : goal.returns-clause-open
returns-clause-open c = opened_new_keeps_all
