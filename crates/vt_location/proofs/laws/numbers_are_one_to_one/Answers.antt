use Rattle.vt_location.proofs.NodeLemmas.{no_inodes, one_to_one}
use Rattle.vt_location.proofs.laws.numbers_are_one_to_one.Goals as goal

pub returns-clause-one : goal.returns-clause-one
returns-clause-one c = one_to_one

pub returns-clause-inodes : goal.returns-clause-inodes
returns-clause-inodes c = no_inodes
