use Rattle.vt_laws_worlds.proofs.overlays_read.Kept.{every_call_keeps_writers, permits_keep_writers}
use Rattle.vt_laws_worlds.proofs.overlays_read.Swept.{sweeps_keep_writers}
use Rattle.vt_laws_worlds.proofs.overlays_read.writers_keep_their_layers.Goals as goal

pub returns-clause-permits : goal.returns-clause-permits
returns-clause-permits c = permits_keep_writers

pub returns-clause-sweeps : goal.returns-clause-sweeps
returns-clause-sweeps c = sweeps_keep_writers

pub returns-clause-calls : goal.returns-clause-calls
returns-clause-calls c = every_call_keeps_writers
