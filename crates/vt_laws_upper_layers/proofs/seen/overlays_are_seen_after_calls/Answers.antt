use Rattle.vt_laws_upper_layers.proofs.seen.AfterCalls
use Rattle.vt_laws_upper_layers.proofs.seen.overlays_are_seen_after_calls.Goals as goal

pub returns-clause-layers : goal.returns-clause-layers
returns-clause-layers c = AfterCalls.layers_of_overlays_stay

pub returns-clause-births : goal.returns-clause-births
returns-clause-births c = AfterCalls.births_follow_calls

pub returns-clause-kept : goal.returns-clause-kept
returns-clause-kept c = AfterCalls.kept_follow_calls

pub returns-clause-tree : goal.returns-clause-tree
returns-clause-tree c = AfterCalls.overlays_are_seen_after_calls
