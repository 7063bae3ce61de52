use Rattle.vt_world.proofs.counting.Lowered.{lowered_itself}
use Rattle.vt_world.proofs.counting.read_only_worlds_are_lowered.Goals as goal

pub returns : goal.returns
returns c = lowered_itself
