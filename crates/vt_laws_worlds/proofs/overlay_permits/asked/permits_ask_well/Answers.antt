use Rattle.vt_laws_worlds.proofs.overlay_permits.asked.Asked.{permits_ask_well}
use Rattle.vt_laws_worlds.proofs.overlay_permits.asked.Unlocked.{permits_spare_what_is_locked}
use Rattle.vt_laws_worlds.proofs.overlay_permits.asked.AskedOverlays
use Rattle.vt_laws_worlds.proofs.overlay_permits.asked.permits_ask_well.Goals as goal

pub returns-clause-all : goal.returns-clause-all
returns-clause-all c = permits_ask_well

pub returns-clause-proper : goal.returns-clause-proper
returns-clause-proper c = AskedOverlays.permits_ask_properly

pub returns-clause-overlays : goal.returns-clause-overlays
returns-clause-overlays c = AskedOverlays.permits_ask_overlays_well

pub returns-clause-locked : goal.returns-clause-locked
returns-clause-locked c = permits_spare_what_is_locked
