use Rattle.vt_laws_mounts.proofs.GroupsKept.{ended_namespaces_keep_groups, flags_keep_groups, inheritance_keeps_groups, lazy_keeps_groups, pivot_keeps_groups, settling_keeps_groups, taking_away_keeps_groups, unmount_keeps_groups, unshare_keeps_groups}
use Rattle.vt_laws_mounts.proofs.GroupsRetyped.{type_keeps_groups}
use Rattle.vt_laws_mounts.proofs.GroupsLiving.{living_is_computed}
use Rattle.vt_laws_mounts.proofs.mounts.groups_live_on.Goals as goal

pub returns-clause-taking_away : goal.returns-clause-taking_away
returns-clause-taking_away c = taking_away_keeps_groups

pub returns-clause-unmount : goal.returns-clause-unmount
returns-clause-unmount c = unmount_keeps_groups

pub returns-clause-lazy : goal.returns-clause-lazy
returns-clause-lazy c = lazy_keeps_groups

pub returns-clause-ended : goal.returns-clause-ended
returns-clause-ended c = ended_namespaces_keep_groups

pub returns-clause-inheritance : goal.returns-clause-inheritance
returns-clause-inheritance c = inheritance_keeps_groups

pub returns-clause-types : goal.returns-clause-types
returns-clause-types c = type_keeps_groups

pub returns-clause-flags : goal.returns-clause-flags
returns-clause-flags c = flags_keep_groups

pub returns-clause-pivot : goal.returns-clause-pivot
returns-clause-pivot c = pivot_keeps_groups

pub returns-clause-unshare : goal.returns-clause-unshare
returns-clause-unshare c = unshare_keeps_groups

pub returns-clause-settling : goal.returns-clause-settling
returns-clause-settling c = settling_keeps_groups

pub returns-clause-computed : goal.returns-clause-computed
returns-clause-computed c = living_is_computed
