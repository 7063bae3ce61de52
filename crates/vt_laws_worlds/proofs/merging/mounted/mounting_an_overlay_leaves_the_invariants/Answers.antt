use Rattle.vt_laws_worlds.proofs.merging.mounted.Reached.{mounted_layers_are_reached}
use Rattle.vt_laws_trees.proofs.layers.mounting.Reached.{layers_are_reached}
use Rattle.vt_laws_worlds.proofs.merging.mounted.WorldsRaised.{policy_mounts_a_world, raising_keeps_worlds}
use Rattle.vt_laws_worlds.proofs.merging.mounted.Worlds.{mounting_leaves_a_world}
use Rattle.vt_laws_worlds.proofs.merging.mounted.Left.{mounting_leaves_overlays, mounting_leaves_trees, mounting_lets_nothing_go}
use Rattle.vt_laws_worlds.proofs.merging.mounted.mounting_an_overlay_leaves_the_invariants.Goals as goal

pub returns-clause-nothing : goal.returns-clause-nothing
returns-clause-nothing c = mounting_lets_nothing_go

pub returns-clause-trees : goal.returns-clause-trees
returns-clause-trees c = mounting_leaves_trees

pub returns-clause-overlays : goal.returns-clause-overlays
returns-clause-overlays c = mounting_leaves_overlays

pub returns-clause-world : goal.returns-clause-world
returns-clause-world c = mounting_leaves_a_world

pub returns-clause-raised : goal.returns-clause-raised
returns-clause-raised c = raising_keeps_worlds

pub returns-clause-policy : goal.returns-clause-policy
returns-clause-policy c = policy_mounts_a_world

pub returns-clause-reached : goal.returns-clause-reached
returns-clause-reached c = layers_are_reached

pub returns-clause-reached_later : goal.returns-clause-reached_later
returns-clause-reached_later c = mounted_layers_are_reached
