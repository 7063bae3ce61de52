use Rattle.vt_laws_worlds.proofs.settling.SettledTasks.{settling_leaves_a_world}
use Rattle.vt_laws_worlds.proofs.settling.what_is_left_is_a_world.Goals as goal

pub returns : goal.returns
returns c = settling_leaves_a_world
