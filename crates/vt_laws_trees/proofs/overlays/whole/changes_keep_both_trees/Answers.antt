use Rattle.vt_laws_trees.proofs.overlays.whole.UpperLimits
use Rattle.vt_laws_trees.proofs.overlays.whole.UpperOwn
use Rattle.vt_laws_trees.proofs.overlays.whole.UpperWhole
use Rattle.vt_laws_trees.proofs.overlays.whole.changes_keep_both_trees.Goals as goal

pub returns-clause-upper : goal.returns-clause-upper
returns-clause-upper c = UpperWhole.upper_trees_stay

pub returns-clause-merged : goal.returns-clause-merged
returns-clause-merged c = UpperWhole.merged_trees_stay

pub returns-clause-names : goal.returns-clause-names
returns-clause-names c = UpperOwn.names_lead_to_own

pub returns-clause-objects : goal.returns-clause-objects
returns-clause-objects c = UpperOwn.objects_are_own

pub returns-clause-sizes : goal.returns-clause-sizes
returns-clause-sizes c = UpperLimits.sizes_stay
