use Rattle.std.proofs.Common.{sym, ◌∙◌}
use Rattle.vt_ns.proofs.mount_looks.LayersListed.{other_plain, overlapped_by_no_more, overlapped_here, overlapped_later}
use Rattle.vt_ns.proofs.mount_looks.WorldLookAtLayers.overlaps_one_of.Goals as goal

pub overlap-requires-clause-other : goal.overlap-requires-clause-other
overlap-requires-clause-other c = other_plain c.args.self.now c.args.others.now c.args.at c.loop-other.other-index _
    c.loop-other-test.true c.requires.others

pub returns-then-overlap : goal.returns-then-overlap
returns-then-overlap c =
    sym (overlapped_here c.args.self.now c.args.others.now c.args.at c.loop-other.other-index _ c.loop-other-test.true
    (sym c.overlap.ensures ∙ c.if-overlap.true)) ∙ c.loop-other.invariant

pub loop-other-preserved : goal.loop-other-preserved
loop-other-preserved c =
    overlapped_later c.args.self.now c.args.others.now c.args.at c.loop-other.other-index _ c.loop-other-test.true
    (sym c.overlap.ensures ∙ c.if-overlap.false) ∙ c.loop-other.invariant

pub returns : goal.returns
returns c = sym (overlapped_by_no_more c.args.self.now c.args.others.now c.args.at c.loop-other.other-index
    c.loop-other-test.false) ∙ c.loop-other.invariant
