use Rattle.vt_laws_mounts.proofs.letting_go.mounting.Unmounted.{lazy_unmounts_let_go, mounts_on_directories_let_go, trees_let_go, unmounts_let_go}
use Rattle.vt_laws_mounts.proofs.letting_go.mounting.what_an_unmount_leaves_goes.Goals as goal

pub returns-clause-unmount : goal.returns-clause-unmount
returns-clause-unmount c = unmounts_let_go

pub returns-clause-lazy : goal.returns-clause-lazy
returns-clause-lazy c = lazy_unmounts_let_go

pub returns-clause-trees : goal.returns-clause-trees
returns-clause-trees c = trees_let_go

pub returns-clause-directory : goal.returns-clause-directory
returns-clause-directory c = mounts_on_directories_let_go
