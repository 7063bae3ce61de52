use Rattle.vt_laws_mounts.proofs.propagation.PropagationAbove.{lower_groups_have_a_group_above, slaves_have_a_group_above}
use Rattle.vt_laws_mounts.proofs.propagation.PropagationAttaching.{copies_at_lower_groups_follow, copies_at_peers_are_peers, copies_at_slaves_are_slaves, private_on_shared, shared_on_shared, slave_on_shared, type_on_not_shared}
use Rattle.vt_laws_mounts.proofs.propagation.copies_take_their_type.Goals as goal

pub returns-clause-not_shared : goal.returns-clause-not_shared
returns-clause-not_shared c = type_on_not_shared

pub returns-clause-shared : goal.returns-clause-shared
returns-clause-shared c = shared_on_shared

pub returns-clause-private : goal.returns-clause-private
returns-clause-private c = private_on_shared

pub returns-clause-slave : goal.returns-clause-slave
returns-clause-slave c = slave_on_shared

pub returns-clause-peers : goal.returns-clause-peers
returns-clause-peers c = copies_at_peers_are_peers

pub returns-clause-slaves : goal.returns-clause-slaves
returns-clause-slaves c = copies_at_slaves_are_slaves

pub returns-clause-lower_groups : goal.returns-clause-lower_groups
returns-clause-lower_groups c = copies_at_lower_groups_follow

pub returns-clause-above_slaves : goal.returns-clause-above_slaves
returns-clause-above_slaves c = slaves_have_a_group_above

pub returns-clause-above_groups : goal.returns-clause-above_groups
returns-clause-above_groups c = lower_groups_have_a_group_above
