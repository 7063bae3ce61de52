use Rattle.vt_laws_mounts.proofs.letting_go.leaving.TreesWithOverlays.{changed_trees_keep_all, changed_trees_let_go, unnamed_go_with_overlays}
use Rattle.vt_laws_mounts.proofs.letting_go.leaving.what_loses_its_name_goes_with_overlays.Goals as goal

pub returns-clause-trees : goal.returns-clause-trees
returns-clause-trees c = changed_trees_let_go

pub returns-clause-kept : goal.returns-clause-kept
returns-clause-kept c = changed_trees_keep_all

pub returns-clause-plain : goal.returns-clause-plain
returns-clause-plain c = unnamed_go_with_overlays
