use Rattle.vt_laws_mounts.proofs.mounts.MountsEnding.{flags_keep_places_ending, inheritance_keeps_places_ending, type_keeps_places_ending}
use Rattle.vt_laws_mounts.proofs.mounts.chains_of_mount_points_end.Goals as goal

pub returns-clause-types : goal.returns-clause-types
returns-clause-types c = type_keeps_places_ending

pub returns-clause-flags : goal.returns-clause-flags
returns-clause-flags c = flags_keep_places_ending

pub returns-clause-inheritance : goal.returns-clause-inheritance
returns-clause-inheritance c = inheritance_keeps_places_ending
