use Rattle.vt_laws_mounts.proofs.mounts.MountsApart.{flags_keep_nowhere, lazy_keeps_nowhere, unshare_keeps_nowhere}
use Rattle.vt_laws_mounts.proofs.mounts.MountsKept.{ended_namespaces_keep_nowhere, inheritance_keeps_nowhere, settling_keeps_nowhere, taking_away_keeps_nowhere, unmount_keeps_nowhere}
use Rattle.vt_laws_mounts.proofs.mounts.mounts_outside_stay_nowhere.Goals as goal

pub returns-clause-taking_away : goal.returns-clause-taking_away
returns-clause-taking_away c = taking_away_keeps_nowhere

pub returns-clause-unmount : goal.returns-clause-unmount
returns-clause-unmount c = unmount_keeps_nowhere

pub returns-clause-ended : goal.returns-clause-ended
returns-clause-ended c = ended_namespaces_keep_nowhere

pub returns-clause-inheritance : goal.returns-clause-inheritance
returns-clause-inheritance c = inheritance_keeps_nowhere

pub returns-clause-flags : goal.returns-clause-flags
returns-clause-flags c = flags_keep_nowhere

pub returns-clause-unshare : goal.returns-clause-unshare
returns-clause-unshare c = unshare_keeps_nowhere

pub returns-clause-lazy : goal.returns-clause-lazy
returns-clause-lazy c = lazy_keeps_nowhere

pub returns-clause-settling : goal.returns-clause-settling
returns-clause-settling c = settling_keeps_nowhere
