use Rattle.vt_world.proofs.overlays_kept.inodes.InodesInOrder.{inodes_are_the_tree, inodes_have_their_objects, inodes_stay, numbers_are_listed}
use Rattle.vt_world.proofs.overlays_kept.inodes.overlays_are_their_inodes.Goals as goal

pub returns-clause-tree : goal.returns-clause-tree
returns-clause-tree c = inodes_are_the_tree

pub returns-clause-objects : goal.returns-clause-objects
returns-clause-objects c = inodes_have_their_objects

pub returns-clause-stay : goal.returns-clause-stay
returns-clause-stay c = inodes_stay

pub returns-clause-listed : goal.returns-clause-listed
returns-clause-listed c = numbers_are_listed
