use Rattle.vt_laws_worlds.proofs.overlay_permits.worlds.EveryCall.{every_call_keeps_worlds}
use Rattle.vt_laws_worlds.proofs.overlay_permits.worlds.every_call_leaves_a_world.Goals as goal

pub returns : goal.returns
returns c = every_call_keeps_worlds
