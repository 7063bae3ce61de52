use Rattle.vt_laws_worlds.proofs.overlays_let_go.changing.NamesLost.{opened_copies_keep_all}
use Rattle.vt_laws_worlds.proofs.overlays_let_go.changing.OverlayCalls.{opened_new_in_overlays_lets_go}
use Rattle.vt_laws_worlds.proofs.overlays_let_go.changing.what_is_opened_in_an_overlay_stays.Goals as goal

pub returns-clause-new : goal.returns-clause-new
returns-clause-new c = opened_new_in_overlays_lets_go

pub returns-clause-copied_up : goal.returns-clause-copied_up
returns-clause-copied_up c = opened_copies_keep_all
