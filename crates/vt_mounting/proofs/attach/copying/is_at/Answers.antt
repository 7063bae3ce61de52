use Rattle.std.proofs.Common.{rules}
use Rattle.vt_mounting.proofs.attach.copying.is_at.Goals as goal

pub returns-in-Some-clause-same : goal.returns-in-Some-clause-same
returns-in-Some-clause-same c is d = search rules
