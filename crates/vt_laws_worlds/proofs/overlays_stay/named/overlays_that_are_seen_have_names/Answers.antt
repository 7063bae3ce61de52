use Rattle.vt_laws_worlds.proofs.overlays_stay.named.SeenNames.{seen_overlays_have_names, seen_worlds_have_names}
use Rattle.vt_laws_worlds.proofs.overlays_stay.named.overlays_that_are_seen_have_names.Goals as goal

pub returns-clause-one : goal.returns-clause-one
returns-clause-one c = seen_overlays_have_names

pub returns-clause-all : goal.returns-clause-all
returns-clause-all c = seen_worlds_have_names
