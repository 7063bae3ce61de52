use Rattle.vt_world.proofs.overlays_kept.inodes.InodesAbove.{layered_inodes_are_the_tree, layered_inodes_have_their_objects, layered_inodes_stay}
use Rattle.vt_world.proofs.overlays_kept.inodes.layered_overlays_are_their_inodes.Goals as goal

pub returns-clause-tree : goal.returns-clause-tree
returns-clause-tree c = layered_inodes_are_the_tree

pub returns-clause-objects : goal.returns-clause-objects
returns-clause-objects c = layered_inodes_have_their_objects

pub returns-clause-stay : goal.returns-clause-stay
returns-clause-stay c = layered_inodes_stay
