use Rattle.vt_laws_containers.proofs.same_sets.sets.PartsAlike.{same_worlds_have_same_parts}
use Rattle.vt_laws_containers.proofs.same_sets.sets.SealedAlike.{same_worlds_are_sealed_alike, same_worlds_give_footholds_alike}
use Rattle.vt_laws_containers.proofs.same_sets.sets.same_worlds_have_same_sealed_sets.Goals as goal

pub returns-clause-sealed : goal.returns-clause-sealed
returns-clause-sealed c = same_worlds_are_sealed_alike

pub returns-clause-footholds : goal.returns-clause-footholds
returns-clause-footholds c = same_worlds_give_footholds_alike

pub returns-clause-parts : goal.returns-clause-parts
returns-clause-parts c = same_worlds_have_same_parts
