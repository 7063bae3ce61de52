use Rattle.vt_changes.proofs.Told.{opened_dated}
use Rattle.vt_changes.proofs.dated.Dated.opening.Goals as goal

pub returns-clause-opened : goal.returns-clause-opened
returns-clause-opened c = opened_dated c.in_ok-kernel.kernel c.in_ok-kernel.ensures.opened c.new.result c.new.ensures
