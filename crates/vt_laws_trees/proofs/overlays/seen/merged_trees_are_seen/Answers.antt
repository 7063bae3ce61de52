use Rattle.vt_laws_trees.proofs.overlays.seen.NamedTrees.{seen_trees_are_named}
use Rattle.vt_laws_trees.proofs.overlays.seen.Paths.{paths_are_no_longer}
use Rattle.vt_laws_trees.proofs.overlays.seen.SeenTrees.{overlays_are_seen, trees_are_seen}
use Rattle.vt_laws_trees.proofs.overlays.seen.merged_trees_are_seen.Goals as goal

pub returns-clause-paths : goal.returns-clause-paths
returns-clause-paths c = paths_are_no_longer

pub returns-clause-seen : goal.returns-clause-seen
returns-clause-seen c = trees_are_seen

pub returns-clause-overlays : goal.returns-clause-overlays
returns-clause-overlays c = overlays_are_seen

pub returns-clause-named : goal.returns-clause-named
returns-clause-named c = seen_trees_are_named
