use Rattle.vt_laws_trees.proofs.calls.inodes.InodesEntries.{other_entries_stay}
use Rattle.vt_laws_trees.proofs.calls.inodes.InodesOwn.{calls_change_their_own}
use Rattle.vt_laws_trees.proofs.calls.inodes.InodesRemain.{only_unused_inodes_end}
use Rattle.vt_laws_trees.proofs.calls.inodes.calls_change_their_own.Goals as goal

pub returns-clause-own : goal.returns-clause-own
returns-clause-own c = calls_change_their_own

pub returns-clause-entries : goal.returns-clause-entries
returns-clause-entries c = other_entries_stay

pub returns-clause-ends : goal.returns-clause-ends
returns-clause-ends c = only_unused_inodes_end
