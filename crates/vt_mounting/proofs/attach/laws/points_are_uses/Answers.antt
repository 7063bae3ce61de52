use Rattle.vt_mounting.proofs.attach.MovedPoints.{points_are_moved}
use Rattle.vt_mounting.proofs.attach.PlacedUses as lemma
use Rattle.vt_mounting.proofs.attach.laws.points_are_uses.Goals as goal

pub returns-clause-uses : goal.returns-clause-uses
returns-clause-uses c = lemma.points_are_uses

pub returns-clause-mounts : goal.returns-clause-mounts
returns-clause-mounts c = points_are_moved
