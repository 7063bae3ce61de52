use Rattle.vt_laws_mounts.proofs.counts.changing.Changes.{counts_follow_changes_in_use, only_files_change_in_use, other_counts_stay_in_use}
use Rattle.vt_laws_mounts.proofs.counts.changing.KeptAll.{names_keep_all_in_use}
use Rattle.vt_laws_mounts.proofs.counts.changing.SameAfter.{counted_changes_are_swept_in_use}
use Rattle.vt_laws_mounts.proofs.counts.overlays.changes_in_use_are_counted.Goals as goal

pub returns-clause-only : goal.returns-clause-only
returns-clause-only c = only_files_change_in_use

pub returns-clause-counts : goal.returns-clause-counts
returns-clause-counts c = counts_follow_changes_in_use

pub returns-clause-others : goal.returns-clause-others
returns-clause-others c = other_counts_stay_in_use

pub returns-clause-named : goal.returns-clause-named
returns-clause-named c = names_keep_all_in_use

pub returns-clause-world : goal.returns-clause-world
returns-clause-world c = counted_changes_are_swept_in_use
