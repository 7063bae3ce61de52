use Rattle.vt_laws_kept.proofs.staying.Named.{left_are_seen, names_are_left}
use Rattle.vt_laws_kept.proofs.staying.overlays_stay_named.Goals as goal

pub returns-clause-named : goal.returns-clause-named
returns-clause-named c = names_are_left

pub returns-clause-seen : goal.returns-clause-seen
returns-clause-seen c = left_are_seen
