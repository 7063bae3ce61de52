use Rattle.vt_request.specs.Requests.{call_of}
use Rattle.vt_turns_dated.proofs.Ending.{turn_ends}
use Rattle.vt_turns_dated.proofs.kernel.TurnKernelTakesTurns.call.Goals as goal

pub returns-clause-ends : goal.returns-clause-ends
returns-clause-ends c = turn_ends c.args.self.now _ c.args.name.now (call_of c.args.call) c.call.result c.call.ensures.ends
    c.call.ensures.in_world
