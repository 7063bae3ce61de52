use Rattle.vt_laws_worlds.proofs.overlays_stay.left.Lowers.{given_permits_leave_lowers}
use Rattle.vt_laws_worlds.proofs.overlays_stay.left.given_permits_leave_lower_layers.Goals as goal

pub returns : goal.returns
returns c = given_permits_leave_lowers
