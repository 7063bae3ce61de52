use Rattle.vt_laws_worlds.proofs.overlay_permits.changed.ChangedOverlays
use Rattle.vt_laws_worlds.proofs.overlay_permits.changed.permits_can_change_overlays.Goals as goal

pub returns-clause-asked : goal.returns-clause-asked
returns-clause-asked c = ChangedOverlays.asked_changes_can_be_made

pub returns-clause-permits : goal.returns-clause-permits
returns-clause-permits c = ChangedOverlays.permits_can_change
