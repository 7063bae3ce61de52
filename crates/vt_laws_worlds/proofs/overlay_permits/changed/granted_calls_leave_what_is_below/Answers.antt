use Rattle.vt_laws_worlds.proofs.overlay_permits.changed.ByLayers.{granted_calls_leave_below}
use Rattle.vt_laws_worlds.proofs.overlay_permits.changed.granted_calls_leave_what_is_below.Goals as goal

pub returns : goal.returns
returns c = granted_calls_leave_below
