use Rattle.std.proofs.Common.{ap, sym, ◌∙◌}
use Rattle.vt_test.specs.Suite.{has_call}
use Rattle.vt_test.proofs.SuiteLemmas.{has_call-silent, has_call-spoken}
use Rattle.vt_test.proofs.suite.Script.has_call.Goals as goal

pub returns-then-not-is_silent : goal.returns-then-not-is_silent
returns-then-not-is_silent c =
    sym (c.loop-line.invariant ∙ has_call-spoken c.loop-line.rest.now c.in-Some.line.now c.in-Some.after.now
    c.in-Some.ensures.lines (sym c.is_silent.ensures ∙ c.if-not-is_silent.true))

pub loop-line-preserved : goal.loop-line-preserved
loop-line-preserved c =
    c.loop-line.invariant ∙ has_call-silent c.loop-line.rest.now c.in-Some.line.now c.in-Some.after.now
    c.in-Some.ensures.lines (sym c.is_silent.ensures ∙ c.if-not-is_silent.false)

pub returns : goal.returns
returns c = sym (c.loop-line.invariant ∙ ap has_call c.in_default.ensures.lines)
