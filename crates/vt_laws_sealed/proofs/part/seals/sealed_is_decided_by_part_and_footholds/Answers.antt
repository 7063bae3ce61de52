use Rattle.vt_laws_sealed.proofs.part.seals.ByPart.{sealed_is_by_part_and_footholds, their_overlays_are_in_the_part, fewer_footholds_seal_too}
use Rattle.vt_laws_sealed.proofs.part.seals.sealed_is_decided_by_part_and_footholds.Goals as goal

pub returns-clause-by_part : goal.returns-clause-by_part
returns-clause-by_part c = sealed_is_by_part_and_footholds

pub returns-clause-overlays : goal.returns-clause-overlays
returns-clause-overlays c = their_overlays_are_in_the_part

pub returns-clause-fewer : goal.returns-clause-fewer
returns-clause-fewer c = fewer_footholds_seal_too
