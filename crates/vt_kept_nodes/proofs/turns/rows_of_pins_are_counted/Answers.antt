use Rattle.vt_kept_nodes.proofs.turns.Rows.{locations_after_steps}
use Rattle.vt_kept_nodes.proofs.turns.Turned.{steps_are_counted, steps_are_joined}
use Rattle.vt_kept_nodes.proofs.turns.rows_of_pins_are_counted.Goals as goal

pub returns-clause-joined : goal.returns-clause-joined
returns-clause-joined c = steps_are_joined

pub returns-clause-counted : goal.returns-clause-counted
returns-clause-counted c = steps_are_counted

pub returns-clause-located : goal.returns-clause-located
returns-clause-located c = locations_after_steps
