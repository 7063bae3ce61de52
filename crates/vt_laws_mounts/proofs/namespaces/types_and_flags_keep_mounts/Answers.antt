use Rattle.vt_laws_mounts.proofs.namespaces.MountsInvariants.{flags_keep_counts, flags_keep_mounts, type_keeps_counts, type_keeps_mounts}
use Rattle.vt_laws_mounts.proofs.namespaces.types_and_flags_keep_mounts.Goals as goal

pub returns-clause-types : goal.returns-clause-types
returns-clause-types c = type_keeps_mounts

pub returns-clause-type_counts : goal.returns-clause-type_counts
returns-clause-type_counts c = type_keeps_counts

pub returns-clause-flags : goal.returns-clause-flags
returns-clause-flags c = flags_keep_mounts

pub returns-clause-flag_counts : goal.returns-clause-flag_counts
returns-clause-flag_counts c = flags_keep_counts
