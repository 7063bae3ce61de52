use Rattle.vt_laws_mounts.proofs.ends.UnmountingEnds.{lazy_detaches_or_keeps, lazy_is_of_mounts}
use Rattle.vt_laws_mounts.proofs.mounts.a_lazy_unmount_detaches_or_keeps.Goals as goal

pub returns-clause-mounts : goal.returns-clause-mounts
returns-clause-mounts c = lazy_detaches_or_keeps

pub returns-clause-others : goal.returns-clause-others
returns-clause-others c = lazy_is_of_mounts
