use Rattle.vt_laws_mounts.proofs.ends.EndingCounts.{ended_namespaces_take_none_in, points_take_none_in, replaced_takes_none_in, trees_take_none_in, unmount_takes_none_in}
use Rattle.vt_laws_mounts.proofs.ends.EndingLazyCounts.{lazy_unmount_takes_none_in}
use Rattle.vt_laws_mounts.proofs.ends.mounts_come_to_no_other_namespace.Goals as goal

pub returns-clause-unmount : goal.returns-clause-unmount
returns-clause-unmount c = unmount_takes_none_in

pub returns-clause-lazy : goal.returns-clause-lazy
returns-clause-lazy c = lazy_unmount_takes_none_in

pub returns-clause-trees : goal.returns-clause-trees
returns-clause-trees c = trees_take_none_in

pub returns-clause-points : goal.returns-clause-points
returns-clause-points c = points_take_none_in

pub returns-clause-replaced : goal.returns-clause-replaced
returns-clause-replaced c = replaced_takes_none_in

pub returns-clause-ended : goal.returns-clause-ended
returns-clause-ended c = ended_namespaces_take_none_in
