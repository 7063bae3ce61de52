use Rattle.vt_laws_trees.proofs.layers.mounting.Kept.{mounting_keeps_overlays, mounting_keeps_trees, mounting_makes_overlay}
use Rattle.vt_laws_trees.proofs.layers.mounting.mounting_an_overlay_keeps_the_invariants.Goals as goal

pub returns-clause-trees : goal.returns-clause-trees
returns-clause-trees c = mounting_keeps_trees

pub returns-clause-overlays : goal.returns-clause-overlays
returns-clause-overlays c = mounting_keeps_overlays

pub returns-clause-makes : goal.returns-clause-makes
returns-clause-makes c = mounting_makes_overlay
