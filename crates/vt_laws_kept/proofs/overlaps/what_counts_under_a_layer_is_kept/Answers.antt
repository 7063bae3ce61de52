use Rattle.vt_laws_kept.proofs.overlaps.Kept.{counts_under_where_kept, is_locked_where_kept}
use Rattle.vt_laws_kept.proofs.overlaps.what_counts_under_a_layer_is_kept.Goals as goal

pub returns-clause-under : goal.returns-clause-under
returns-clause-under c = counts_under_where_kept

pub returns-clause-locked : goal.returns-clause-locked
returns-clause-locked c = is_locked_where_kept
