use Rattle.std.proofs.Common.{[], ◌∷◌, ◌++◌, length, refl, sym, ap, ◌∙◌, subst, append_assoc, length-append, arith}
use Rattle.vt_spec.proofs.Common.{err_from_is_err_and}
use Rattle.vt_script.specs.Session.{Broke, Fed, moment}
use Rattle.vt_script.specs.SessionValue.{state_of}
use Rattle.vt_script.proofs.SessionLemmas.{broke_before, broke_then, fed_bytes, fed_nothing, fed_then, lines_begun-grows}
use Rattle.vt_script.proofs.session.Session.feed.Goals as goal

pub loop-line-init : goal.loop-line-init
loop-line-init g c = record {
  failures = refl;
  read = [];
  split = refl;
  begun = omega arith;
  feeds = λ line reading. fed_nothing g.W.Sink _ line _ reading;
}

pub returns-in_err-take_line-clause-feeds : goal.returns-in_err-take_line-clause-feeds
returns-in_err-take_line-clause-feeds g c =
    let p = err_from_is_err_and c.from_residual.result c.from_residual.ensures.1 in
    let inv = c.loop-line.invariant in
    let line = c.in-Some.line.now ++ 10 ∷ [] in
    let after = c.in-Some.after.now in
    let split = inv.split
    ∙ ap (λ rest. inv.read ++ rest) (c.in-Some.ensures.0 ∙ sym (append_assoc c.in-Some.line.now (10 ∷ []) after))
    ∙ sym (append_assoc inv.read line after) in
    rw p.1 (λ begun reading.
    let first = inv.feeds begun reading in
    subst (λ bytes. Broke g.W.Sink
    (moment (state_of g.C.Calls.world c.args.self.now) begun) bytes c.args.sink.now c.take_line.new.sink) (sym split)
    (broke_before g.W.Sink _ (inv.read ++ line) after _ _
    (broke_then g.W.Sink _ inv.read line _ _ _ _ first (c.in_err-take_line.ensures.feeds first.line first.reading))))

pub loop-line-preserved : goal.loop-line-preserved
loop-line-preserved g c =
    let inv = c.loop-line.invariant in
    let line = c.in-Some.line.now ++ 10 ∷ [] in
    let after = c.in-Some.after.now in
    record {
      failures = c.in_ok-take_line.ensures.kept ∙ inv.failures;
      read = inv.read ++ line;
      split = inv.split ∙ ap (λ rest. inv.read ++ rest)
          (c.in-Some.ensures.0 ∙ sym (append_assoc c.in-Some.line.now (10 ∷ []) after))
          ∙ sym (append_assoc inv.read line after);
      begun = omega (arith, c.in_ok-take_line.ensures.begun, inv.begun, length-append inv.read line, length-append c.in-Some.line.now (10 ∷ []));
      feeds = λ begun reading.
          let first = inv.feeds begun reading in
          fed_then g.W.Sink _ inv.read line _ _ _ _ _ first (c.in_ok-take_line.ensures.feeds first.line first.reading);
    }

pub returns-clause-feeds : goal.returns-clause-feeds
returns-clause-feeds g c = λ begun reading.
    let inv = c.loop-line.invariant in
    let rest = c.loop-line.rest.now in
    let old = state_of g.C.Calls.world c.loop-line.self in
    let new = state_of g.C.Calls.world (record c.loop-line.self { line = c.extend.new.self }) in
    let first = inv.feeds begun reading in
    let last = fed_bytes g.W.Sink old new first.line rest c.loop-line.sink first.reading c.in_default.ensures refl refl refl
    (c.extend.ensures.holds first.line first.reading.held) in
    subst (λ bytes. Fed g.W.Sink (moment
    (state_of g.C.Calls.world c.args.self.now) begun) bytes new c.args.sink.now c.loop-line.sink) (sym inv.split)
    (fed_then g.W.Sink _ inv.read rest _ _ _ _ _ first last)

pub returns-clause-begun : goal.returns-clause-begun
returns-clause-begun g c =
    let inv = c.loop-line.invariant in
    let rest = c.loop-line.rest.now in
    let old = state_of g.C.Calls.world c.loop-line.self in
    let new = state_of g.C.Calls.world (record c.loop-line.self { line = c.extend.new.self }) in
    let grown = lines_begun-grows old new rest refl c.extend.ensures.kept in
    omega (arith, grown, inv.begun, ap length inv.split, length-append inv.read rest)
