use Rattle.vt_laws_worlds.proofs.overlay_permits.worlds.LowersAfterCalls.{every_call_leaves_lowers}
use Rattle.vt_laws_worlds.proofs.overlay_permits.worlds.LowersOverScripts.{lowers_stay_over_scripts}
use Rattle.vt_laws_worlds.proofs.overlay_permits.worlds.lower_layers_are_locked_over_scripts.Goals as goal

pub returns-clause-calls : goal.returns-clause-calls
returns-clause-calls c = every_call_leaves_lowers

pub returns-clause-scripts : goal.returns-clause-scripts
returns-clause-scripts c = lowers_stay_over_scripts
