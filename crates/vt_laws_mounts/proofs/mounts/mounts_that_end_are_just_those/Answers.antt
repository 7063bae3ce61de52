use Rattle.vt_laws_mounts.proofs.ends.UnmountingEnds.{others_are_kept, others_keep_their_places, others_keep_their_types, taken_are_detached}
use Rattle.vt_laws_mounts.proofs.mounts.mounts_that_end_are_just_those.Goals as goal

pub returns-clause-taken : goal.returns-clause-taken
returns-clause-taken c = taken_are_detached

pub returns-clause-kept : goal.returns-clause-kept
returns-clause-kept c = others_are_kept

pub returns-clause-places : goal.returns-clause-places
returns-clause-places c = others_keep_their_places

pub returns-clause-types : goal.returns-clause-types
returns-clause-types c = others_keep_their_types
