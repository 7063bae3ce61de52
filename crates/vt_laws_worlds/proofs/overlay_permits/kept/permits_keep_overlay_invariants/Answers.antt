use Rattle.vt_laws_worlds.proofs.overlay_permits.kept.KeptOverlays
use Rattle.vt_laws_worlds.proofs.overlay_permits.kept.permits_keep_overlay_invariants.Goals as goal

pub returns-clause-change : goal.returns-clause-change
returns-clause-change c = KeptOverlays.permits_make_their_change

pub returns-clause-kept : goal.returns-clause-kept
returns-clause-kept c = KeptOverlays.permits_keep_overlay_invariants
