use Rattle.vt_laws_worlds.proofs.overlays_stay.kept.OverlaysSwept.{sweeps_give_no_upper, sweeps_keep_names}
use Rattle.vt_laws_worlds.proofs.overlays_stay.kept.sweeps_give_no_upper_layer.Goals as goal

pub returns-clause-upper : goal.returns-clause-upper
returns-clause-upper c = sweeps_give_no_upper

pub returns-clause-named : goal.returns-clause-named
returns-clause-named c = sweeps_keep_names
