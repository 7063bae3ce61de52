use Rattle.vt_propagate.proofs.laws.EndsInTurn.{namespaces_end_in_turn, one_by_one_are_swept_once, turns_are_seen_swept, unlisted_namespaces_end_in_turn}
use Rattle.vt_propagate.proofs.laws.EndsOrder.{ended_go_in_turn, namespaces_end_deepest_first}
use Rattle.vt_propagate.proofs.laws.namespaces_end_mount_by_mount.Goals as goal

pub returns-clause-alone : goal.returns-clause-alone
returns-clause-alone c = one_by_one_are_swept_once

pub returns-clause-ended : goal.returns-clause-ended
returns-clause-ended c = namespaces_end_in_turn

pub returns-clause-unlisted : goal.returns-clause-unlisted
returns-clause-unlisted c = unlisted_namespaces_end_in_turn

pub returns-clause-order : goal.returns-clause-order
returns-clause-order c = ended_go_in_turn

pub returns-clause-deepest : goal.returns-clause-deepest
returns-clause-deepest c = namespaces_end_deepest_first

pub returns-clause-turns : goal.returns-clause-turns
returns-clause-turns c = turns_are_seen_swept
