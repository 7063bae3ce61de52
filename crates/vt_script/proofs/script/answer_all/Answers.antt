use Rattle.std.proofs.Common.{Err, inl, [], refl, sym, ap, ◌≡◌, ◌∙◌, ◌++◌, take, append_assoc, append-nil, length-take, arith}
use Rattle.vt_spec.proofs.Common.{err_from_is_err_and}
use Rattle.vt_script.specs.SessionValue.{state_of}
use Rattle.vt_script.proofs.SessionLemmas.{fed_nothing, fed_then, broke_then}
use Rattle.vt_script.proofs.ToldLemmas.{whole_held, broke_held, broke_at_once, ends_well, ends_badly, last_at_once}
use Rattle.vt_script.proofs.script.answer_all.Goals as goal

pub returns-in-Err-clause-after_read : goal.returns-in-Err-clause-after_read
returns-in-Err-clause-after_read g c = λ is tells holds.
    let inv = c.pieces.invariant in (
      inv.read,
      inv.rest tells ∙ ap (λ rest. inv.read ++ rest) (sym (c.in-Err.ensures.none_lost (inv.source_tells tells))),
      whole_held c.requires.opening g.W.Sink inv.read _ _ _ inv.feeds holds,
    )

pub pieces-init : goal.pieces-init
pieces-init g c =
    let new = state_of g.C.Calls.world c.args.session.now in
    let sink = c.args.sink.now in
    record {
      source_failures = refl;
      sink_failures = refl;
      lines = omega (arith, c.requires.begun, g.met.R.Source.limited c.args.source.now);
      source_tells = λ tells. tells;
      read = [];
      rest = λ tells. refl;
      feeds = fed_nothing g.W.Sink new [] sink c.requires.reading;
    }

pub pieces-preserved : goal.pieces-preserved
pieces-preserved g c =
    let inv = c.pieces.invariant in
    record {
      source_failures = c.in-Ok.ensures.failures_kept ∙ inv.source_failures;
      sink_failures = c.in_ok-feed.ensures.kept ∙ inv.sink_failures;
      lines = omega (arith, c.in_ok-feed.ensures.begun, c.in-Ok.ensures.fewer_to_come, inv.lines, length-take c.in-Ok.count c.read.new.buffer);
      source_tells = λ tells. c.read.ensures.still_tells (inv.source_tells tells);
      read = inv.read ++ take c.in-Ok.count c.read.new.buffer;
      rest = λ tells. inv.rest tells ∙ ap (λ rest. inv.read ++ rest) (c.in-Ok.ensures.bytes (inv.source_tells tells))
          ∙ sym (append_assoc inv.read _ _);
      feeds = fed_then g.W.Sink _ inv.read _ _ _ _ _ _ inv.feeds
          (c.in_ok-feed.ensures.feeds inv.feeds.line inv.feeds.reading);
    }

pub returns-in_err-feed-clause-after_write : goal.returns-in_err-feed-clause-after_write
returns-in_err-feed-clause-after_write g c = λ is tells holds.
    let inv = c.pieces.invariant in
    broke_held c.requires.opening g.W.Sink _ (inv.read ++ take c.in-Ok.count c.read.new.buffer)
    (g.R.Source.rest c.read.new.self) _ _
    (inv.rest tells ∙ ap (λ rest. inv.read ++ rest) (c.in-Ok.ensures.bytes (inv.source_tells tells))
    ∙ sym (append_assoc inv.read _ _)) (broke_then g.W.Sink _ inv.read _ _ _ _ _ inv.feeds
    (c.in_err-feed.ensures.feeds inv.feeds.line inv.feeds.reading)) holds

pub returns-in_err-feed-clause-at_once : goal.returns-in_err-feed-clause-at_once
returns-in_err-feed-clause-at_once g c = λ is tells holds.
    let inv = c.pieces.invariant in
    broke_at_once c.requires.opening g.W.Sink _ inv.read (take c.in-Ok.count c.read.new.buffer)
    (g.R.Source.rest c.read.new.self) _ _ _ _ _ inv.feeds (c.in_err-feed.ensures.feeds inv.feeds.line inv.feeds.reading)
    (inv.rest tells ∙ ap (λ rest. inv.read ++ rest) (c.in-Ok.ensures.bytes (inv.source_tells tells))
    ∙ sym (append_assoc inv.read _ _))
    (omega (arith, c.in-Ok.ensures.last_read, c.in-Ok.ensures.count, length-take c.in-Ok.count c.read.new.buffer)) holds

pub returns-in_err-feed-clause-no_write_failed : goal.returns-in_err-feed-clause-no_write_failed
returns-in_err-feed-clause-no_write_failed g c =
    let failed = err_from_is_err_and c.from_residual.result c.from_residual.ensures.1 in
    inl (failed.1 ∙ ap Err (failed.2 ∙ c.in_err-feed.ensures.fault))

pub returns-clause-ok : goal.returns-clause-ok
returns-clause-ok g c =
    let inv = c.pieces.invariant in
    ends_well c.requires.opening g.W.Sink c.finish.result _ inv.read _ _ _ _ inv.feeds
    (c.finish.ensures.closes inv.feeds.line inv.feeds.reading) (λ tells. inv.rest tells ∙ ap (λ rest. inv.read ++ rest)
    (c.in-Ok.ensures.end (inv.source_tells tells) c.if-count-eq0.true) ∙ append-nil inv.read)

pub returns-clause-after_write : goal.returns-clause-after_write
returns-clause-after_write g c =
    let inv = c.pieces.invariant in
    ends_badly c.requires.opening g.W.Sink c.finish.result _ _ inv.read _ _ _ _ inv.feeds
    (c.finish.ensures.closes inv.feeds.line inv.feeds.reading) (λ tells. inv.rest tells ∙ ap (λ rest. inv.read ++ rest)
    (c.in-Ok.ensures.end (inv.source_tells tells) c.if-count-eq0.true) ∙ append-nil inv.read)

pub returns-clause-at_once : goal.returns-clause-at_once
returns-clause-at_once g c = λ is tells holds.
    let inv = c.pieces.invariant in
    let none : g.R.Source.tells c.args.source.now → g.R.Source.rest c.read.new.self ≡ [] = λ tells. sym (c.in-Ok.ensures.bytes (inv.source_tells tells)
    ∙ ap (λ count. take count c.read.new.buffer ++ g.R.Source.rest c.read.new.self) c.if-count-eq0.true)
    ∙ c.in-Ok.ensures.end (inv.source_tells tells) c.if-count-eq0.true in
    last_at_once c.requires.opening g.W.Sink c.finish.result _ _ inv.read _ _ _ _ _ _ inv.feeds
    (c.finish.ensures.closes inv.feeds.line inv.feeds.reading) (λ tells. inv.rest tells ∙ ap (λ rest. inv.read ++ rest)
    (c.in-Ok.ensures.end (inv.source_tells tells) c.if-count-eq0.true) ∙ append-nil inv.read) none
    (c.in-Ok.ensures.last_read ∙ c.if-count-eq0.true) is tells holds
