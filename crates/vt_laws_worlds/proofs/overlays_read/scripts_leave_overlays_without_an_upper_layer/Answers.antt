use Rattle.vt_laws_worlds.proofs.overlays_read.Scripts.{scripts_change_none, scripts_keep_writers}
use Rattle.vt_laws_worlds.proofs.overlays_read.scripts_leave_overlays_without_an_upper_layer.Goals as goal

pub returns-clause-writers : goal.returns-clause-writers
returns-clause-writers c = scripts_keep_writers

pub returns-clause-none : goal.returns-clause-none
returns-clause-none c = scripts_change_none
