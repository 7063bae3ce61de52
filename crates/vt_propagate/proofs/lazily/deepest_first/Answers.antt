use Rattle.std.proofs.Common.{ap, reverse, ◌∙◌}
use Rattle.vt_propagate.proofs.Found.{counts}
use Rattle.vt_propagate.proofs.lazily.LazyOrder.{counts-reverse}
use Rattle.vt_propagate.proofs.lazily.deepest_first.Goals as goal

pub returns : goal.returns
returns c = record {
  ok =
      ap counts c.reverse.ensures.items ∙ counts-reverse c.in_ok-events.events.items ∙ ap reverse c.in_ok-events.ensures;
}
