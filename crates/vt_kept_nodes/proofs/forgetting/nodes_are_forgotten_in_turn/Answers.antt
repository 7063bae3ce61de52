use Rattle.vt_kept_nodes.proofs.forgetting.Forgotten.{forgetting_goes_on, last_uses_are_forgotten, pins_forget_nothing}
use Rattle.vt_kept_nodes.proofs.forgetting.nodes_are_forgotten_in_turn.Goals as goal

pub returns-clause-pins : goal.returns-clause-pins
returns-clause-pins c = pins_forget_nothing

pub returns-clause-unpins : goal.returns-clause-unpins
returns-clause-unpins c = last_uses_are_forgotten

pub returns-clause-on : goal.returns-clause-on
returns-clause-on c = forgetting_goes_on
