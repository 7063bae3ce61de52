use Rattle.std.proofs.Common.{ap, drop, eq-eqb, sym, take, ◌∙◌}
use Rattle.std.proofs.lemmas.Bool.{ne_eqb}
use Rattle.vt_verdict.specs.Compared.{is_of}
use Rattle.vt_verdict.proofs.Lines.{goes-on, stops-here}
use Rattle.vt_verdict.proofs.compare.split_line.Goals as goal

pub returns-then-answer-number-clause-line : goal.returns-then-answer-number-clause-line
returns-then-answer-number-clause-line c =
    c.split_at.ensures.front ∙ ap (λ n. take n c.args.answers.now) (sym (stops-here (is_of c.args.number) c.args.answers.now
    c.loop-place.place _ c.loop-place.invariant (ne_eqb _ _ c.if-answer-number.true)))

pub returns-then-answer-number-clause-rest : goal.returns-then-answer-number-clause-rest
returns-then-answer-number-clause-rest c =
    c.split_at.ensures.back ∙ ap (λ n. drop n c.args.answers.now) (sym (stops-here (is_of c.args.number) c.args.answers.now
    c.loop-place.place _ c.loop-place.invariant (ne_eqb _ _ c.if-answer-number.true)))

pub loop-place-preserved : goal.loop-place-preserved
loop-place-preserved c =
    goes-on (is_of c.args.number) c.args.answers.now c.loop-place.place _ c.loop-place.invariant c.loop-place-test.true
    (eq-eqb _ _ c.if-answer-number.false)
