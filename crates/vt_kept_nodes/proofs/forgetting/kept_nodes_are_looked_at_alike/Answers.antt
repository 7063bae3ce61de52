use Rattle.vt_kept_nodes.proofs.forgetting.LookedAt.{held_are_kept_still, kept_find_their_objects, others_have_their_numbers}
use Rattle.vt_kept_nodes.proofs.forgetting.kept_nodes_are_looked_at_alike.Goals as goal

pub returns-clause-objects : goal.returns-clause-objects
returns-clause-objects c = kept_find_their_objects

pub returns-clause-held : goal.returns-clause-held
returns-clause-held c = held_are_kept_still

pub returns-clause-numbers : goal.returns-clause-numbers
returns-clause-numbers c = others_have_their_numbers
