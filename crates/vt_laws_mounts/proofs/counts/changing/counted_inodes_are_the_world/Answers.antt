use Rattle.vt_laws_mounts.proofs.counts.Listed.{same_numbers_are_permuted}
use Rattle.vt_laws_mounts.proofs.counts.changing.SameAfter.{counted_changes_are_swept}
use Rattle.vt_laws_mounts.proofs.counts.changing.counted_inodes_are_the_world.Goals as goal

pub returns-clause-numbers : goal.returns-clause-numbers
returns-clause-numbers c = same_numbers_are_permuted

pub returns-clause-world : goal.returns-clause-world
returns-clause-world c = counted_changes_are_swept
