use Rattle.vt_laws_trees.proofs.overlays.whole.ApartInvariants
use Rattle.vt_laws_trees.proofs.overlays.whole.ApartLater
use Rattle.vt_laws_trees.proofs.overlays.whole.changes_keep_overlay_invariants.Goals as goal

pub returns-clause-apart : goal.returns-clause-apart
returns-clause-apart c = ApartLater.layers_stay_apart

pub returns-clause-overlays : goal.returns-clause-overlays
returns-clause-overlays c = ApartInvariants.overlay_invariants_stay

pub returns-clause-trees : goal.returns-clause-trees
returns-clause-trees c = ApartInvariants.trees_stay

pub returns-clause-files : goal.returns-clause-files
returns-clause-files c = ApartInvariants.tree_invariants_stay
