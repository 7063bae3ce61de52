use Rattle.vt_laws_mounts.proofs.counts.changing.Changes.{counts_follow_changes_beside_overlays, only_files_change_beside_overlays, other_counts_stay_beside_overlays, worlds_are_in_use}
use Rattle.vt_laws_mounts.proofs.counts.changing.KeptAll.{names_keep_all_beside_overlays}
use Rattle.vt_laws_mounts.proofs.counts.changing.SameAfter.{counted_changes_are_swept_beside_overlays}
use Rattle.vt_laws_mounts.proofs.counts.overlays.changes_beside_overlays_are_counted.Goals as goal

pub returns-clause-in_use : goal.returns-clause-in_use
returns-clause-in_use c = worlds_are_in_use

pub returns-clause-only : goal.returns-clause-only
returns-clause-only c = only_files_change_beside_overlays

pub returns-clause-counts : goal.returns-clause-counts
returns-clause-counts c = counts_follow_changes_beside_overlays

pub returns-clause-others : goal.returns-clause-others
returns-clause-others c = other_counts_stay_beside_overlays

pub returns-clause-named : goal.returns-clause-named
returns-clause-named c = names_keep_all_beside_overlays

pub returns-clause-world : goal.returns-clause-world
returns-clause-world c = counted_changes_are_swept_beside_overlays
