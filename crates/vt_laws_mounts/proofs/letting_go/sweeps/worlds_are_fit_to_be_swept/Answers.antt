use Rattle.vt_laws_mounts.proofs.letting_go.sweeps.OfWorlds.{locations_of_worlds_stand, plain_worlds_are_settled, worlds_are_settled, mounts_of_worlds_stand, reals_of_worlds_are_there, uppers_of_worlds_are_plain, worlds_have_trees}
use Rattle.vt_laws_mounts.proofs.letting_go.sweeps.worlds_are_fit_to_be_swept.Goals as goal

pub returns-clause-trees : goal.returns-clause-trees
returns-clause-trees c = worlds_have_trees

pub returns-clause-mounts : goal.returns-clause-mounts
returns-clause-mounts c = mounts_of_worlds_stand

pub returns-clause-uppers : goal.returns-clause-uppers
returns-clause-uppers c = uppers_of_worlds_are_plain

pub returns-clause-reals : goal.returns-clause-reals
returns-clause-reals c = reals_of_worlds_are_there

pub returns-clause-locations : goal.returns-clause-locations
returns-clause-locations c = locations_of_worlds_stand

pub returns-clause-settled : goal.returns-clause-settled
returns-clause-settled c = worlds_are_settled

pub returns-clause-plain : goal.returns-clause-plain
returns-clause-plain c = plain_worlds_are_settled
