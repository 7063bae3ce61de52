use Rattle.vt_laws_worlds.proofs.overlays_stay.kept.OverlaysSwept.{mounted_overlays_stay, permits_leave_overlays}
use Rattle.vt_laws_worlds.proofs.overlays_stay.kept.TreesStay.{mounted_overlay_stays, seen_trees_stay}
use Rattle.vt_laws_worlds.proofs.overlays_stay.kept.overlays_without_an_upper_layer_stay.Goals as goal

pub returns-clause-unswept : goal.returns-clause-unswept
returns-clause-unswept c = permits_leave_overlays

pub returns-clause-mounted : goal.returns-clause-mounted
returns-clause-mounted c = mounted_overlays_stay

pub returns-clause-one : goal.returns-clause-one
returns-clause-one c = mounted_overlay_stays

pub returns-clause-seen : goal.returns-clause-seen
returns-clause-seen c = seen_trees_stay
