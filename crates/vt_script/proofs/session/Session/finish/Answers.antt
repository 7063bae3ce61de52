use Rattle.std.proofs.Common.{◌≢◌, [], arith}
use Rattle.vt_script.specs.SessionValue.{state_of}
use Rattle.vt_script.proofs.SessionLemmas.{begun_of_some, closed_none, closes_reply}
use Rattle.vt_script.proofs.session.Session.finish.Goals as goal

pub returns-then-is_empty-clause-closes : goal.returns-then-is_empty-clause-closes
returns-then-is_empty-clause-closes g c = λ line reading.
    closed_none g.W.Sink (state_of g.C.Calls.world c.args.self.now) line c.args.sink.now
    ((c.is_empty.ensures.holds line reading.held).0 c.if-is_empty.true)

pub overflow_add-self : goal.overflow_add-self
overflow_add-self g c =
    let some : c.args.self.now.line.bytes ≢ [] = λ none. let empty = c.is_empty.ensures.empty.1 none in cc in
    omega (arith, c.requires.lines, begun_of_some c.args.self.now.line.bytes some)

pub returns-clause-closes : goal.returns-clause-closes
returns-clause-closes g c = λ line reading.
    let some : line ≢ [] = λ none. let empty = (c.is_empty.ensures.holds line reading.held).1 none in cc in
    closes_reply g.W.Sink _ line _ _ _ c.answer_kept.result some reading (c.answer_kept.ensures.replies line reading.held reading.numbers)
