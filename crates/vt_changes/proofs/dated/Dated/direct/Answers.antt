use Rattle.vt_request.specs.Requests.{directive_of}
use Rattle.vt_changes.specs.contracts.dated.Dated.{the_view}
use Rattle.vt_changes.proofs.Directing.{directs_dated}
use Rattle.vt_changes.proofs.dated.Dated.direct.Goals as goal

pub returns : goal.returns
returns c = directs_dated (the_view c.self.inside) c.args.self.now c.self.view_is (directive_of c.args.directive.now)
    c.direct.result c.direct.ensures
