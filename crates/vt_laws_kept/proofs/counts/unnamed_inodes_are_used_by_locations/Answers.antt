use Rattle.vt_laws_kept.proofs.counts.Located.{locations_are_exchanged, unnamed_exist_while_located, unnamed_uses_are_locations}
use Rattle.vt_laws_kept.proofs.counts.unnamed_inodes_are_used_by_locations.Goals as goal

pub returns-clause-uses : goal.returns-clause-uses
returns-clause-uses c = unnamed_uses_are_locations

pub returns-clause-exists : goal.returns-clause-exists
returns-clause-exists c = unnamed_exist_while_located

pub returns-clause-exchanged : goal.returns-clause-exchanged
returns-clause-exchanged c = locations_are_exchanged
