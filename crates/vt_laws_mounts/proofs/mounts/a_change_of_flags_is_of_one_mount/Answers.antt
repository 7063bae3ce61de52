use Rattle.vt_laws_mounts.proofs.mounts.MountsRetyped.{flags_are_of_one, flags_are_set}
use Rattle.vt_laws_mounts.proofs.mounts.a_change_of_flags_is_of_one_mount.Goals as goal

pub returns-clause-set : goal.returns-clause-set
returns-clause-set c = flags_are_set

pub returns-clause-others : goal.returns-clause-others
returns-clause-others c = flags_are_of_one
