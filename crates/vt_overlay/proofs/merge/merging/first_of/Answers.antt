use Rattle.std.proofs.Common.{◌∙◌, Contains, subst, sym}
use Rattle.std.proofs.lemmas.List.Elements.{Contains-get_or}
use Rattle.vt_overlay.proofs.merge.EntriesFound.{goes_lower, shows_first}
use Rattle.vt_overlay.proofs.merge.merging.first_of.Goals as goal

pub returns-in-Some-clause-shows : goal.returns-in-Some-clause-shows
returns-in-Some-clause-shows c = c.loop-top.invariant
    ∙ shows_first c.args.trees.now c.args.merged.now c.loop-top.top-index _ c.args.name.now c.loop-top-test.true
    c.in-Some.found c.in-Some.ensures.above c.in-Some.ensures.entry

pub returns-in-Some-clause-above : goal.returns-in-Some-clause-above
returns-in-Some-clause-above c = subst (Contains c.args.merged.now) (sym c.in-Some.ensures.above)
    (Contains-get_or c.args.merged.now c.loop-top.top-index _ c.loop-top-test.true)

pub loop-top-preserved : goal.loop-top-preserved
loop-top-preserved c = c.loop-top.invariant
    ∙ goes_lower c.args.trees.now c.args.merged.now c.loop-top.top-index _ c.args.name.now c.loop-top-test.true
    (c.entry_in.ensures.nothing c.in_default.is)
