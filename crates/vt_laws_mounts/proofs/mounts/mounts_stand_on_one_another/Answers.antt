use Rattle.vt_laws_mounts.proofs.mounts.Standing.{binds_take_each_once, standing_is_computed, trees_have_each_once}
use Rattle.vt_laws_mounts.proofs.mounts.mounts_stand_on_one_another.Goals as goal

pub returns-clause-computed : goal.returns-clause-computed
returns-clause-computed c = standing_is_computed

pub returns-clause-trees : goal.returns-clause-trees
returns-clause-trees c = trees_have_each_once

pub returns-clause-binds : goal.returns-clause-binds
returns-clause-binds c = binds_take_each_once
