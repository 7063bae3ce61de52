use Rattle.std.proofs.Common.{◌≡◌, [], ◌∷◌, ◌++◌, refl, subst, sym}
use Rattle.vt_script.specs.Session.{Feeds, IsReading, moment}
use Rattle.vt_script.specs.SessionValue.{state_of}
use Rattle.vt_script.proofs.SessionLemmas.{fed_bytes, feeds_then}
use Rattle.vt_script.proofs.session.Session.take_line.Goals as goal

pub returns-then-is_empty-clause-feeds : goal.returns-then-is_empty-clause-feeds
returns-then-is_empty-clause-feeds g c = λ line reading.
    let old = state_of g.C.Calls.world c.args.self.now in
    let new = state_of g.C.Calls.world c.answer_whole.new.self in
    let none : line ≡ [] = (c.is_empty.ensures.holds line reading.held).0 c.if-is_empty.true in
    subst (λ l. Feeds g.W.Sink (moment old l) (c.args.rest.now ++ 10 ∷ []) c.answer_whole.result new c.args.sink.now
    c.answer_whole.new.sink) (sym none) (c.answer_whole.ensures.feeds (subst (IsReading old) none reading))

pub returns-clause-feeds : goal.returns-clause-feeds
returns-clause-feeds g c = λ line reading.
    let old = state_of g.C.Calls.world c.args.self.now in
    let middle = state_of g.C.Calls.world (record c.args.self.now { line = c.extend.new.self }) in
    let first = fed_bytes g.W.Sink old middle line c.args.rest.now c.args.sink.now reading c.requires.one refl refl refl
    (c.extend.ensures.holds line reading.held) in
    feeds_then g.W.Sink (moment old line) c.args.rest.now (10 ∷ []) middle _ _ _ _ c.end_line.result first
    (c.end_line.ensures.feeds first.line first.reading)
