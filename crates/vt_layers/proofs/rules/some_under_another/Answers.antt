use Rattle.std.proofs.Common.{sym, ◌∙◌}
use Rattle.vt_layers.proofs.RuleLemmas.{pair-here, pair-later, pairs-ended}
use Rattle.vt_layers.proofs.rules.some_under_another.Goals as goal

pub returns-then-has_another_under : goal.returns-then-has_another_under
returns-then-has_another_under g c =
    sym (pair-here (g.L.Look.looks c.args.world.now) c.args.lowers.now c.loop-place.place _ c.loop-place-test.true
    (sym c.has_another_under.ensures ∙ c.if-has_another_under.true)) ∙ c.loop-place.invariant

pub loop-place-preserved : goal.loop-place-preserved
loop-place-preserved g c =
    pair-later (g.L.Look.looks c.args.world.now) c.args.lowers.now c.loop-place.place _ c.loop-place-test.true
    (sym c.has_another_under.ensures ∙ c.if-has_another_under.false) ∙ c.loop-place.invariant

pub returns : goal.returns
returns g c = pairs-ended (g.L.Look.looks c.args.world.now) c.args.lowers.now c.loop-place.place c.loop-place-test.false
    ∙ c.loop-place.invariant
