use Rattle.vt_laws_sealed.proofs.part.part.Observed.{part_is_by_observations}
use Rattle.vt_laws_sealed.proofs.part.part.UnusedFilesystems.{unused_filesystems_may_change}
use Rattle.vt_laws_sealed.proofs.part.part.DeadMounts.{dead_mounts_are_in_no_part}
use Rattle.vt_laws_sealed.proofs.part.part.a_part_is_what_its_tasks_see.Goals as goal

pub returns-clause-observations : goal.returns-clause-observations
returns-clause-observations c = part_is_by_observations

pub returns-clause-unused : goal.returns-clause-unused
returns-clause-unused c = unused_filesystems_may_change

pub returns-clause-dead : goal.returns-clause-dead
returns-clause-dead c = dead_mounts_are_in_no_part
