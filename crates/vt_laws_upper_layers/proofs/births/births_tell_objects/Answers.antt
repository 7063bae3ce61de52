use Rattle.vt_laws_upper_layers.proofs.births.Found.{inodes_find_their_objects, inodes_have_one_copy, inodes_have_own_objects}
use Rattle.vt_laws_upper_layers.proofs.births.births_tell_objects.Goals as goal

pub returns-clause-objects : goal.returns-clause-objects
returns-clause-objects c = inodes_have_own_objects

pub returns-clause-copies : goal.returns-clause-copies
returns-clause-copies c = inodes_have_one_copy

pub returns-clause-found : goal.returns-clause-found
returns-clause-found c = inodes_find_their_objects
