use Rattle.std.proofs.Common.{Err, ap, sym, ◌∙◌}
use Rattle.vt_later.specs.Passing.{lets_pass}
use Rattle.vt_later.proofs.Rows.{row_left, row_refuses}
use Rattle.vt_later.proofs.passing.unless.Goals as goal

pub returns-then-refuses : goal.returns-then-refuses
returns-then-refuses c =
    ap Err c.denial.ensures
    ∙ sym (row_refuses (lets_pass c.args.passed.now) c.args.rows.now c.loop-fails.fails-index _ c.args.behind _
    c.loop-fails-test.true c.refuses.ensures c.if-refuses.true) ∙ c.loop-fails.invariant

pub loop-fails-preserved : goal.loop-fails-preserved
loop-fails-preserved c =
    row_left (lets_pass c.args.passed.now) c.args.rows.now c.loop-fails.fails-index _ c.args.behind _
    c.loop-fails-test.true c.refuses.ensures c.if-refuses.false ∙ c.loop-fails.invariant
