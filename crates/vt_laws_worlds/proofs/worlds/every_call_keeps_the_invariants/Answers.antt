use Rattle.vt_laws_worlds.proofs.worlds.CallsKept.{calls_keep_worlds}
use Rattle.vt_laws_worlds.proofs.worlds.every_call_keeps_the_invariants.Goals as goal

pub returns : goal.returns
returns c = calls_keep_worlds
