use Rattle.vt_laws_worlds.proofs.overlay_permits.through.LayersLater.{every_call_leaves_other_layers}
use Rattle.vt_laws_worlds.proofs.overlay_permits.through.LayersOverScripts.{layers_stay_over_scripts}
use Rattle.vt_laws_worlds.proofs.overlay_permits.through.every_call_leaves_other_layers.Goals as goal

pub returns-clause-calls : goal.returns-clause-calls
returns-clause-calls c = every_call_leaves_other_layers

pub returns-clause-scripts : goal.returns-clause-scripts
returns-clause-scripts c = layers_stay_over_scripts
