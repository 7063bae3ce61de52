use Rattle.std.proofs.Common.{Err, Ok, ap, subst}
use Rattle.vt_line.specs.Lines.{IsReadingOf}
use Rattle.vt_line.specs.Versions.{version_of}
use Rattle.vt_script.proofs.ReplyLemmas.{call_leaves, direct_leaves, silent_leaves, unread_leaves}
use Rattle.vt_lines.proofs.told.answer_told.Goals as goal

pub returns-in-Ok-Silent : goal.returns-in-Ok-Silent
returns-in-Ok-Silent g c = λ numbers.
    silent_leaves (version_of c.args.version) (g.C.Calls.world c.args.world.now) c.args.line.now numbers
    (c.in-Ok-Silent.ensures.silent.0 (ap Ok c.in-Ok-Silent.field-0-is))

pub returns-in-Ok-Call : goal.returns-in-Ok-Call
returns-in-Ok-Call g c =
    let asks = subst (IsReadingOf (version_of c.args.version) c.args.line.now) c.in-Ok-Call.field-0-is c.in-Ok-Call.ensures.reading in
    λ numbers. call_leaves (version_of c.args.version) g.C.Calls.world c.args.world.now c.call-outcome.new.self
    c.args.line.now _ _ c.call-outcome.result asks.0 asks.1 c.call-outcome.ensures.ends

pub returns-in-Ok-Ask : goal.returns-in-Ok-Ask
returns-in-Ok-Ask g c =
    let asks = subst (IsReadingOf (version_of c.args.version) c.args.line.now) c.in-Ok-Ask.field-0-is c.in-Ok-Ask.ensures.reading in
    λ numbers. direct_leaves (version_of c.args.version) (g.C.Calls.world c.args.world.now) c.args.line.now _
    c.direct.result numbers asks.0 asks.1 c.direct.ensures

pub returns-in-Err : goal.returns-in-Err
returns-in-Err g c = λ numbers.
    unread_leaves (version_of c.args.version) (g.C.Calls.world c.args.world.now) c.args.line.now c.in-Err.deny numbers
    c.in-Err.ensures.refused (λ is. c.in-Err.ensures.no_request.0 (ap Err is))
    (λ is. c.in-Err.ensures.no_memory (ap Err is))
