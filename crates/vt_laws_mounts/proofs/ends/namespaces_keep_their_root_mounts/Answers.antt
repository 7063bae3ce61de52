use Rattle.vt_laws_mounts.proofs.ends.EndingCounts.{ended_namespaces_keep_roots, points_keep_roots, replaced_keeps_roots, trees_keep_roots, unmount_keeps_roots}
use Rattle.vt_laws_mounts.proofs.ends.EndingLazyCounts.{lazy_unmount_keeps_roots}
use Rattle.vt_laws_mounts.proofs.ends.namespaces_keep_their_root_mounts.Goals as goal

pub returns-clause-unmount : goal.returns-clause-unmount
returns-clause-unmount c = unmount_keeps_roots

pub returns-clause-lazy : goal.returns-clause-lazy
returns-clause-lazy c = lazy_unmount_keeps_roots

pub returns-clause-trees : goal.returns-clause-trees
returns-clause-trees c = trees_keep_roots

pub returns-clause-points : goal.returns-clause-points
returns-clause-points c = points_keep_roots

pub returns-clause-replaced : goal.returns-clause-replaced
returns-clause-replaced c = replaced_keeps_roots

pub returns-clause-ended : goal.returns-clause-ended
returns-clause-ended c = ended_namespaces_keep_roots
