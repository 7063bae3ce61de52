use Rattle.vt_propagate.proofs.Seeing.{detaching_is_seen, retyping_is_seen, sharing_is_seen, slaves_are_seen}
use Rattle.vt_propagate.proofs.laws.what_is_seen_stays_the_world.Goals as goal

pub returns-clause-detaching : goal.returns-clause-detaching
returns-clause-detaching c = detaching_is_seen

pub returns-clause-retyping : goal.returns-clause-retyping
returns-clause-retyping c = retyping_is_seen

pub returns-clause-slaves : goal.returns-clause-slaves
returns-clause-slaves c = slaves_are_seen

pub returns-clause-sharing : goal.returns-clause-sharing
returns-clause-sharing c = sharing_is_seen
