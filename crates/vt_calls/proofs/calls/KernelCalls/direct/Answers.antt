use Rattle.vt_request.specs.Requests.{directive_of}
use Rattle.vt_calls.proofs.Directing.{directs_numbered}
use Rattle.vt_calls.specs.contracts.calls.Kernel.{the_view}
use Rattle.vt_calls.proofs.calls.KernelCalls.direct.Goals as goal

pub returns : goal.returns
returns c = directs_numbered (the_view c.self.inside) _ c.self.view_is (directive_of c.args.directive.now) c.directed.result
    c.directed.ensures
