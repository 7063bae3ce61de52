use Rattle.vt_laws_mounts.proofs.ends.EndingCounts.{ended_namespaces_have_no_more, points_have_no_more, replaced_has_no_more, trees_have_no_more, unmount_has_no_more}
use Rattle.vt_laws_mounts.proofs.ends.EndingLazyCounts.{lazy_unmount_has_no_more}
use Rattle.vt_laws_mounts.proofs.ends.namespaces_have_no_more_mounts.Goals as goal

pub returns-clause-unmount : goal.returns-clause-unmount
returns-clause-unmount c = unmount_has_no_more

pub returns-clause-lazy : goal.returns-clause-lazy
returns-clause-lazy c = lazy_unmount_has_no_more

pub returns-clause-trees : goal.returns-clause-trees
returns-clause-trees c = trees_have_no_more

pub returns-clause-points : goal.returns-clause-points
returns-clause-points c = points_have_no_more

pub returns-clause-replaced : goal.returns-clause-replaced
returns-clause-replaced c = replaced_has_no_more

pub returns-clause-ended : goal.returns-clause-ended
returns-clause-ended c = ended_namespaces_have_no_more
