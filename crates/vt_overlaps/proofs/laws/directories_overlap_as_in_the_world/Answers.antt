use Rattle.vt_overlaps.proofs.Overlapped.{directories_overlap_alike, read_only_overlays_keep_as_stored, written_overlap_alike}
use Rattle.vt_overlaps.proofs.laws.directories_overlap_as_in_the_world.Goals as goal

pub returns-clause-directories : goal.returns-clause-directories
returns-clause-directories c = directories_overlap_alike

pub returns-clause-written : goal.returns-clause-written
returns-clause-written c = written_overlap_alike

pub returns-clause-kept : goal.returns-clause-kept
returns-clause-kept c = read_only_overlays_keep_as_stored
