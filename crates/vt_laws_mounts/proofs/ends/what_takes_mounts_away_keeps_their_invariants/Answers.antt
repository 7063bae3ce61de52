use Rattle.vt_laws_mounts.proofs.ends.Ending.{ended_namespaces_keep_mounts, points_keep_mounts, replaced_keeps_mounts, trees_keep_mounts, unmount_keeps_mounts}
use Rattle.vt_laws_mounts.proofs.ends.EndingLazy.{lazy_unmount_keeps_mounts}
use Rattle.vt_laws_mounts.proofs.ends.what_takes_mounts_away_keeps_their_invariants.Goals as goal

pub returns-clause-unmount : goal.returns-clause-unmount
returns-clause-unmount c = unmount_keeps_mounts

pub returns-clause-lazy : goal.returns-clause-lazy
returns-clause-lazy c = lazy_unmount_keeps_mounts

pub returns-clause-trees : goal.returns-clause-trees
returns-clause-trees c = trees_keep_mounts

pub returns-clause-points : goal.returns-clause-points
returns-clause-points c = points_keep_mounts

pub returns-clause-replaced : goal.returns-clause-replaced
returns-clause-replaced c = replaced_keeps_mounts

pub returns-clause-ended : goal.returns-clause-ended
returns-clause-ended c = ended_namespaces_keep_mounts
