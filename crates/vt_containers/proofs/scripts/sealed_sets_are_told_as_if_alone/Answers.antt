use Rattle.vt_containers.proofs.Told.{sealed_sets_are_told_as_if_alone, texts_are_written_by_lines}
use Rattle.vt_containers.proofs.scripts.sealed_sets_are_told_as_if_alone.Goals as goal

pub returns-clause-lines : goal.returns-clause-lines
returns-clause-lines c = texts_are_written_by_lines

pub returns-clause-alone : goal.returns-clause-alone
returns-clause-alone c = sealed_sets_are_told_as_if_alone
