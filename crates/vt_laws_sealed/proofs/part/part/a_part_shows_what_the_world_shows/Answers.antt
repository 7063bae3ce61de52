use Rattle.vt_laws_sealed.proofs.part.part.PartOfPart.{part_of_the_part_is_the_part}
use Rattle.vt_laws_sealed.proofs.part.part.MountsOver.{mounts_over_are_those_of_the_part}
use Rattle.vt_laws_sealed.proofs.part.part.FlagsInPart.{only_their_flags_change_the_part}
use Rattle.vt_laws_sealed.proofs.part.part.a_part_shows_what_the_world_shows.Goals as goal

pub returns-clause-again : goal.returns-clause-again
returns-clause-again c = part_of_the_part_is_the_part

pub returns-clause-over : goal.returns-clause-over
returns-clause-over c = mounts_over_are_those_of_the_part

pub returns-clause-flags : goal.returns-clause-flags
returns-clause-flags c = only_their_flags_change_the_part
