use Rattle.vt_laws_worlds.proofs.overlay_permits.worlds.HiddenLater.{every_call_uncovers_nothing, hidden_over_scripts}
use Rattle.vt_laws_worlds.proofs.overlay_permits.worlds.what_is_hidden_stays_hidden.Goals as goal

pub returns-clause-calls : goal.returns-clause-calls
returns-clause-calls c = every_call_uncovers_nothing

pub returns-clause-scripts : goal.returns-clause-scripts
returns-clause-scripts c = hidden_over_scripts
