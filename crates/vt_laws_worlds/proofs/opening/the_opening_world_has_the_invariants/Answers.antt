use Rattle.vt_laws_worlds.proofs.opening.OpeningWorld.{opening_is_a_world}
use Rattle.vt_laws_worlds.proofs.opening.the_opening_world_has_the_invariants.Goals as goal

pub returns : goal.returns
returns c = opening_is_a_world
