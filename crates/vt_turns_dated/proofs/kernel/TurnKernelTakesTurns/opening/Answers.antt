use Rattle.vt_changes.specs.DatedValue.{dated_world}
use Rattle.vt_turns_dated.proofs.Opening.{opened_ready}
use Rattle.vt_turns_dated.proofs.kernel.TurnKernelTakesTurns.opening.Goals as goal

pub returns-clause-ready : goal.returns-clause-ready
returns-clause-ready c = opened_ready (dated_world c.in_ok-dated.dated) c.in_ok-dated.ensures.opened
