use Rattle.vt_laws_mounts.proofs.letting_go.leaving.UsesKept.{flags_are_of_one, flags_keep_all, set_flags_keep_all, types_keep_all}
use Rattle.vt_laws_mounts.proofs.letting_go.leaving.types_and_flags_keep_all.Goals as goal

pub returns-clause-types : goal.returns-clause-types
returns-clause-types c = types_keep_all

pub returns-clause-one : goal.returns-clause-one
returns-clause-one c = flags_are_of_one

pub returns-clause-flags : goal.returns-clause-flags
returns-clause-flags c = flags_keep_all

pub returns-clause-set_flags : goal.returns-clause-set_flags
returns-clause-set_flags c = set_flags_keep_all
