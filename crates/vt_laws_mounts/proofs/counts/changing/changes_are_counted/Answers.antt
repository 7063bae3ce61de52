use Rattle.vt_laws_mounts.proofs.counts.changing.Changes.{counts_follow_changes, only_files_change, other_counts_stay}
use Rattle.vt_laws_mounts.proofs.counts.changing.KeptAll.{names_keep_all}
use Rattle.vt_laws_mounts.proofs.counts.changing.changes_are_counted.Goals as goal

pub returns-clause-only : goal.returns-clause-only
returns-clause-only c = only_files_change

pub returns-clause-counts : goal.returns-clause-counts
returns-clause-counts c = counts_follow_changes

pub returns-clause-others : goal.returns-clause-others
returns-clause-others c = other_counts_stay

pub returns-clause-named : goal.returns-clause-named
returns-clause-named c = names_keep_all
