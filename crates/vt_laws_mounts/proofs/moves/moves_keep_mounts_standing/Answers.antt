use Rattle.vt_laws_mounts.proofs.moves.Moving.{moves_keep_places, moves_keep_standing}
use Rattle.vt_laws_mounts.proofs.moves.moves_keep_mounts_standing.Goals as goal

pub returns-clause-standing : goal.returns-clause-standing
returns-clause-standing c = moves_keep_standing

pub returns-clause-places : goal.returns-clause-places
returns-clause-places c = moves_keep_places
