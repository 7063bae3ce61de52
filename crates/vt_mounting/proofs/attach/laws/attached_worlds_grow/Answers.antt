use Rattle.vt_mounting.proofs.attach.GrownGroups.{attached_worlds_grow}
use Rattle.vt_mounting.proofs.attach.laws.attached_worlds_grow.Goals as goal

pub returns : goal.returns
returns c = attached_worlds_grow
