use Rattle.vt_laws_trees.proofs.layers.layers.LowersKept.{others_stay}
use Rattle.vt_laws_trees.proofs.layers.layers.LowersWorld.{others_elsewhere, the_rest_stays}
use Rattle.vt_laws_trees.proofs.layers.layers.LowersEveryCall.{locked_inodes_stay}
use Rattle.vt_laws_trees.proofs.layers.layers.UpperWorld.{upper_filesystem_keeps}
use Rattle.vt_laws_trees.proofs.layers.layers.lower_layers_stay.Goals as goal

pub returns-clause-inodes : goal.returns-clause-inodes
returns-clause-inodes c = others_stay

pub returns-clause-filesystems : goal.returns-clause-filesystems
returns-clause-filesystems c = others_elsewhere

pub returns-clause-rest : goal.returns-clause-rest
returns-clause-rest c = the_rest_stays

pub returns-clause-locked : goal.returns-clause-locked
returns-clause-locked c = locked_inodes_stay

pub returns-clause-upper : goal.returns-clause-upper
returns-clause-upper c = upper_filesystem_keeps
