use Rattle.vt_laws_upper_layers.proofs.lowered.Alike.{layer_on, lowered_have_no_upper, uses_the_same}
use Rattle.vt_laws_upper_layers.proofs.lowered.lowered_worlds_use_the_same.Goals as goal

pub returns-clause-none : goal.returns-clause-none
returns-clause-none c = lowered_have_no_upper

pub returns-clause-filesystems : goal.returns-clause-filesystems
returns-clause-filesystems c = layer_on

pub returns-clause-inodes : goal.returns-clause-inodes
returns-clause-inodes c = uses_the_same
