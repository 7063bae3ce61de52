use Rattle.vt_laws_worlds.proofs.overlay_permits.worlds.SweptWorlds.{settling_leaves_every_world}
use Rattle.vt_laws_worlds.proofs.overlay_permits.worlds.the_sweep_leaves_a_world.Goals as goal

pub returns : goal.returns
returns c = settling_leaves_every_world
