use Rattle.vt_overlaps.proofs.Locked.{locks_are_those_of_the_world, read_only_overlays_keep_nothing}
use Rattle.vt_overlaps.proofs.laws.what_lies_in_layers_is_locked.Goals as goal

pub returns-clause-locked : goal.returns-clause-locked
returns-clause-locked c = locks_are_those_of_the_world

pub returns-clause-kept : goal.returns-clause-kept
returns-clause-kept c = read_only_overlays_keep_nothing
