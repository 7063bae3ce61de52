use Rattle.vt_laws_mounts.proofs.counts.changing.Rows.{counts_follow_rows, only_files_change_in_rows, other_counts_stay_in_rows}
use Rattle.vt_laws_mounts.proofs.counts.changing.SameAfter.{counted_rows_are_swept}
use Rattle.vt_laws_mounts.proofs.counts.overlays.rows_are_counted.Goals as goal

pub returns-clause-only : goal.returns-clause-only
returns-clause-only c = only_files_change_in_rows

pub returns-clause-counts : goal.returns-clause-counts
returns-clause-counts c = counts_follow_rows

pub returns-clause-others : goal.returns-clause-others
returns-clause-others c = other_counts_stay_in_rows

pub returns-clause-world : goal.returns-clause-world
returns-clause-world c = counted_rows_are_swept
