use Rattle.vt_layered.proofs.UsesUnseen.{uses_are_not_seen, uses_leave_layers}
use Rattle.vt_layered.proofs.laws.uses_of_kept_nodes_are_not_seen.Goals as goal

pub returns-clause-seen : goal.returns-clause-seen
returns-clause-seen c = uses_are_not_seen

pub returns-clause-standing : goal.returns-clause-standing
returns-clause-standing c = uses_leave_layers
